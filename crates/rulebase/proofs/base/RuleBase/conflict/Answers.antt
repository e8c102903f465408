use Rattle.std.proofs.Common.{◌≡◌}
use Rattle.semantics.specs.Sets.{width}
use Rattle.semantics.specs.Rules.{conflict}
use Rattle.rulebase.specs.Calls.{rules_in, rows_in, state_in}
use Rattle.rulebase.specs.Reference.{held}
use Rattle.rulebase.specs.Tables.{state_of}
use Rattle.rulebase.proofs.Conflicts.{conflict-bottom}
use Rattle.rulebase.proofs.ReadOut.{places_fit, places-graded}
use Rattle.rulebase.proofs.base.RuleBase.conflict.Goals as goal

pub returns-clause-bottom : goal.returns-clause-bottom
unfolding state_of
returns-clause-bottom g c =
    let s = g.S.Scale.scale in
    let b = c.args.self.now in
    let rules = held (state_in s b).places in
    let is : c.conflict.result ≡ conflict s.order width rules = cc (c.conflict.ensures.grade, c.as_mut_slice.ensures.value, c.read_held.ensures) in
    conflict-bottom s.order rules _ is (places_fit s (rules_in b) (rows_in b) c.read_held.new.held.items c.read_held.ensures) (places-graded s (rules_in b) (rows_in b))
