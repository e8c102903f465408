use Rattle.std.proofs.Common.{◌≡◌, MatchOption, sym, subst}
use Rattle.semantics.specs.Sets.{Highest}
use Rattle.semantics.proofs.Members.{highest_power, atom_highest}
use Rattle.semantics.proofs.set.highest.Goals as goal

pub returns : goal.returns
returns c =
    let A = c.args.set in
    let e = c.in_ok-checked_ilog2.ensures in
    subst (λ o. MatchOption o (A ≡ 0) (λ atom. Highest atom.number A)) (sym c.ok.ensures.value)
    (atom_highest A _ e.bound (highest_power _ _ e.power_le e.next_power_gt) c.try_from.result c.try_from.ensures)
