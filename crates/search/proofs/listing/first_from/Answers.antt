use Rattle.search.proofs.Listed.{branch-listed}
use Rattle.search.proofs.listing.first_from.Goals as goal

pub returns : goal.returns
returns c =
    branch-listed c.args.rules.now c.args.set c.args.atom.number c.above-higher.result c.ranges.set.fits c.above-higher.ensures c.least.result
    (simp (c.all_strong.ensures.rules, c.all_strong.ensures.threshold, c.with.ensures, c.complement.ensures) at c.least.ensures)
