use Rattle.std.proofs.Common.{◌<◌}
use Rattle.semantics.specs.Sets.{width, adding}
use Rattle.std.proofs.lemmas.Nat.{one_shl}
use Rattle.semantics.proofs.set.with.Goals as goal

pub returns : goal.returns
unfolding adding
returns c =
    let small : c.args.atom.number < width = c.args.atom.ok in
    rw (c.number.ensures, one_shl c.args.atom.number width small)
