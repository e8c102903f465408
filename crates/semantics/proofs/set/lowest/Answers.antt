use Rattle.std.proofs.Common.{◌≡◌, sym, subst, MatchOption}
use Rattle.semantics.specs.Sets.{Lowest}
use Rattle.semantics.proofs.Members.{lowest_atom}
use Rattle.semantics.proofs.set.lowest.Goals as goal

pub returns : goal.returns
returns c =
    let A = c.args.set in
    subst (λ o. MatchOption o (A ≡ 0) (λ atom. Lowest atom.number A)) (sym c.ok.ensures.value)
    (lowest_atom A c.ranges.set.fits c.try_from.result c.try_from.ensures)
