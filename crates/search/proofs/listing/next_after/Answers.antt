use Rattle.std.proofs.Common.{rules}
use Rattle.search.proofs.Listed.{walk_start, walk_found, walk_end}
use Rattle.search.proofs.listing.next_after.Goals as goal

pub loop-atom-init : goal.loop-atom-init
loop-atom-init c = walk_start c.args.rules.now c.args.set c.into_iter-atom-iterator.result.rest c.ranges.set.fits (search rules)

pub returns-in-Some-first_from : goal.returns-in-Some-first_from
returns-in-Some-first_from c =
    let atom = c.in-Some.atom in
    walk_found c.args.rules.now c.args.set c.loop-atom.atom-iterator.rest atom.number c.in-Some-first_from.next
    c.loop-atom.invariant atom.ok c.in-Some.ensures.steps.0.0 c.in-Some-first_from.ensures

pub returns : goal.returns
returns c = walk_end c.args.rules.now c.args.set c.loop-atom.atom-iterator.rest c.loop-atom.invariant c.in-None.ensures.steps.0.0
