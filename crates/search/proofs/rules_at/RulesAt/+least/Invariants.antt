use Rattle.search.proofs.Forced.{room}
use Rattle.search.proofs.rules_at.RulesAt.+least.Given as goal

abbrev pub decreases-least : goal.decreases-least
decreases-least l = room l.given
