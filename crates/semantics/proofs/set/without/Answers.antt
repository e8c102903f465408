use Rattle.std.proofs.Common.{◌<◌}
use Rattle.semantics.specs.Sets.{width, others}
use Rattle.std.proofs.lemmas.Nat.{one_shl}
use Rattle.semantics.proofs.Members.{has_without}
use Rattle.semantics.proofs.set.without.Goals as goal

pub returns : goal.returns
unfolding others
returns c =
    let small : c.args.atom.number < width = c.args.atom.ok in
    rw (c.number.ensures, one_shl c.args.atom.number width small) (λ x. has_without width c.args.set c.args.atom.number x c.ranges.set.fits small)
