use Rattle.search.proofs.Objected.{objected, worst_falls}
use Rattle.search.proofs.objection.least_objection.Goals as goal

pub loop-set-smaller : goal.loop-set-smaller
loop-set-smaller c = worst_falls c.args.rules.now c.args.bounds _ _ _ c.in-Some.ensures.passes c.in-Some-broken_rank.ensures

pub returns : goal.returns
returns c = objected c.args.rules.now c.args.bounds c.loop-set.best c.loop-set.threshold c.loop-set.invariant c.in_default.ensures
