-- The list of a set's atoms, taken from the front.
use Rattle.std.proofs.Common.{◌≡◌, ℕ, zero, suc, ◌+◌, ◌<◌, ◌≤◌, Bool, true, false, cond, not, ◌&&◌, eqb, List, [], ◌∷◌, filter, sym, refl, ap, ◌∙◌, ⊎_elim, arith}
use mathlib.Core.Bool.{and-true, and-false}
use Rattle.std.specs.List.{range_with_len}
use Rattle.std.proofs.lemmas.Bool.{cases_lt, eq-eqb, ne_eqb}
use Rattle.semantics.specs.Sets.{has, Lowest}
use Rattle.semantics.specs.Members.{members}
use Rattle.semantics.proofs.Sets.{has-none}

-- two tests that agree from s on keep the same numbers from s on
filter_alike : (p q : ℕ → Bool) (s n : ℕ) → ((y : ℕ) → s ≤ y → p y ≡ q y) → filter p (range_with_len s n) ≡ filter q (range_with_len s n)
filter_alike p q s zero h = refl
filter_alike p q s (suc n) h =
    ap (λ b. cond b (s ∷ filter p (range_with_len (s + 1) n)) (filter p (range_with_len (s + 1) n))) (h s (omega arith))
    ∙ ap (λ xs. cond (q s) (s ∷ xs) xs) (filter_alike p q (s + 1) n (λ y l. h y (omega arith)))

-- The first number that passes a test, then those that pass it without that one.
module _ (p q : ℕ → Bool) (x : ℕ) (at : p x ≡ true) (below : (y : ℕ) → y < x → p y ≡ false) (other : (y : ℕ) → q y ≡ (p y && not (eqb y x))) where
  gone : q x ≡ false
  gone = other x ∙ ap (λ b. p x && not b) (eq-eqb x x refl) ∙ and-false (p x)

  lower : (y : ℕ) → y < x → q y ≡ false
  lower y l = other y ∙ ap (λ b. b && not (eqb y x)) (below y l)

  higher : (y : ℕ) → x + 1 ≤ y → p y ≡ q y
  higher y l = sym (other y ∙ ap (λ b. p y && not b) (ne_eqb y x (λ e. omega arith)) ∙ and-true (p y))

  filter_first : (s n : ℕ) → s ≤ x → x < s + n → filter p (range_with_len s n) ≡ x ∷ filter q (range_with_len s n)
  filter_first s zero l m = absurd (omega arith)
  filter_first s (suc n) l m =
      ⊎_elim
      (λ h.
      ap (λ b. cond b (s ∷ filter p (range_with_len (s + 1) n)) (filter p (range_with_len (s + 1) n))) (below s h)
      ∙ filter_first (s + 1) n (omega arith) (omega arith)
      ∙ sym (ap (λ b. x ∷ cond b (s ∷ filter q (range_with_len (s + 1) n)) (filter q (range_with_len (s + 1) n))) (lower s h)))
      (λ h.
      let e : s ≡ x = omega arith in
      ap (λ b. cond b (s ∷ filter p (range_with_len (s + 1) n)) (filter p (range_with_len (s + 1) n))) (ap p e ∙ at)
      ∙ ap (λ (xs : List ℕ). s ∷ xs) (filter_alike p q (s + 1) n (λ y k. higher y (omega arith)))
      ∙ ap (λ y. y ∷ filter q (range_with_len (s + 1) n)) e
      ∙ sym (ap (λ b. x ∷ cond b (s ∷ filter q (range_with_len (s + 1) n)) (filter q (range_with_len (s + 1) n))) (ap q e ∙ gone)))
      (cases_lt s x)

-- a set that has a lowest atom: this one, then the atoms of the set without it
pub members_first : (w A B x : ℕ) → x < w → Lowest x A → ((y : ℕ) → has B y ≡ (has A y && not (eqb y x))) → members w A ≡ x ∷ members w B
unfolding members
members_first w A B x l first without = filter_first (has A) (has B) x first.member first.below without 0 w (omega arith) (omega arith)

-- no number passes a test that fails everywhere
filter_none : (p : ℕ → Bool) (s n : ℕ) → ((y : ℕ) → p y ≡ false) → filter p (range_with_len s n) ≡ []
filter_none p s zero h = refl
filter_none p s (suc n) h = ap (λ b. cond b (s ∷ filter p (range_with_len (s + 1) n)) (filter p (range_with_len (s + 1) n))) (h s) ∙ filter_none p (s + 1) n h

-- the empty set has no atoms
pub members_none : (w A : ℕ) → A ≡ 0 → members w A ≡ []
unfolding members
members_none w A e = filter_none (has A) 0 w (λ y. ap (λ (B : ℕ). has B y) e ∙ has-none y)
