use Rattle.std.proofs.Common.{◌<◌}
use Rattle.semantics.specs.Sets.{width}
use Rattle.std.proofs.lemmas.Nat.{one_shl}
use Rattle.semantics.proofs.Sets.{test_one}
use Rattle.semantics.proofs.set.contains.Goals as goal

pub returns : goal.returns
returns c =
    let small : c.args.atom.number < width = c.args.atom.ok in
    rw (c.number.ensures, one_shl c.args.atom.number width small) (test_one c.args.set c.args.atom.number)
