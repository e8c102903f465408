-- A stable set is one that is founded in its reduct and breaks no rule of it.
use Rattle.std.proofs.Common.{◌≡◌, ℕ, ◌^◌, ◌<◌, true, false, List}
use Rattle.scale.specs.Laws.{Order}
use Rattle.semantics.specs.Rules.{Rule, Among, reduct, breaks, founded, stable}
use Rattle.semantics.specs.Statements.{Fits, Graded}
use Rattle.semantics.proofs.Reducts.{reduct-fits, reduct-graded}
use Rattle.semantics.proofs.Objections.{none_opposes, unopposed_founded, unopposed_breaks_none, unopposed_is_stable, stable_is_unopposed, stable_is_below}

pub stable_from : {G : Type 0} (o : Order G) (w : ℕ) (P : List (Rule G)) → Fits w P → Graded o P → (A : ℕ) → A < 2 ^ w → founded w (reduct A P) A ≡ true → ((r : Rule G) → Among r (reduct A P) → breaks A r ≡ false) → stable o w P A ≡ true
stable_from o w P fits graded A l t f = unopposed_is_stable o w P fits graded A l (none_opposes o w (reduct A P) (reduct-fits w A P fits) A t f)

pub stable-out : {G : Type 0} (o : Order G) (w : ℕ) (P : List (Rule G)) → Fits w P → Graded o P → (A : ℕ) → stable o w P A ≡ true → (A < 2 ^ w) × (founded w (reduct A P) A ≡ true) × ((r : Rule G) → Among r (reduct A P) → breaks A r ≡ false)
stable-out o w P fits graded A t =
    let e = stable_is_unopposed o w P fits A t in
    let rfits = reduct-fits w A P fits in
    (stable_is_below o w P A t, (unopposed_founded o w (reduct A P) rfits A e).0, unopposed_breaks_none o w (reduct A P) rfits (reduct-graded o A P graded) A e)
