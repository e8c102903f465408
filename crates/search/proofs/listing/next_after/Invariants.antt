use Rattle.search.proofs.Listed.{Walking}
use Rattle.search.proofs.listing.next_after.Given as goal

abbrev pub invariant-loop-atom : goal.invariant-loop-atom
invariant-loop-atom l = Walking l.rules l.set l.atom-iterator.rest
