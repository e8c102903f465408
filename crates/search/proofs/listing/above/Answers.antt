use Rattle.std.proofs.Common.{◌<◌}
use Rattle.std.proofs.lemmas.Nat.{one_shl}
use Rattle.semantics.specs.Sets.{width}
use Rattle.search.proofs.Pivots.{decides_above}
use Rattle.search.proofs.listing.above.Goals as goal

pub returns : goal.returns
returns c x =
    let small : c.args.atom.number < width = c.args.atom.ok in
    rw (c.complement.ensures, c.with.ensures, c.number.ensures, one_shl c.args.atom.number width small)
    (decides_above width c.args.atom.number small x)
