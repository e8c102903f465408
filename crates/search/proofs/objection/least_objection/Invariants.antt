use Rattle.search.proofs.Objected.{Best}
use Rattle.search.proofs.objection.least_objection.Given as goal

abbrev pub invariant-loop-set : goal.invariant-loop-set
invariant-loop-set l = Best l.rules l.bounds l.best l.threshold

abbrev pub decreases-loop-set : goal.decreases-loop-set
decreases-loop-set l = l.threshold
