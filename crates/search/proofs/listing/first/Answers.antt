use Rattle.search.proofs.Listed.{first_listed}
use Rattle.search.proofs.listing.first.Goals as goal

pub returns : goal.returns
returns c = first_listed c.args.rules.now c.least.result (simp (c.all_strong.ensures.rules, c.all_strong.ensures.threshold) at c.least.ensures)
