-- The atoms of a set, one after the other, from the lowest.
use Rattle.std.proofs.Common.{◌≡◌, ℕ, zero, suc, ◌/◌, ◌%◌, ◌^◌, ◌*◌, ◌<◌, ◌≤◌, not, ◌&&◌, eqb, Some, None, Option, Ok, Err, Result, sym, subst, refl, ap, ◌∙◌, ⊎_elim, pow-suc, arith, MatchOption}
use mathlib.Core.Bool.{and-true, and-false}
use lib.Bits.{bit_and}
use lib.Count.{count_trailing_zeros, under}
use lib.Pow.{pow-lt}
use Rattle.std.proofs.lemmas.Bool.{cases_lt, eq-eqb, ne_eqb, and_left, cases_Bool, cases_eq}
use Rattle.std.specs.Result.{result_ok}
use Rattle.scale.specs.declared.refusal.Refusal.{Refusal}
use Rattle.semantics.specs.Atoms.{AtomFrom}
use Rattle.semantics.specs.Sets.{width, has, others, In, Out, Lowest, Highest}
use Rattle.semantics.specs.declared.atom.Atom.{Atom}
use Rattle.semantics.proofs.Sets.{has-low, has-next, has_and, has_one, has-others, has_past, agree-lt, below-width, has-below, not_both, out_from}

-- the zeros below the lowest digit that is set tell the lowest atom
record Found (w A t : ℕ) : Type 0 where
  low : t < w
  lowest : Lowest t A

found-next : (w A t : ℕ) → A % 2 ≡ 0 → Found w (A / 2) t → Found (suc w) A (suc t)
found-next w A t even f = record {
  low = omega (arith, f.low);
  lowest = record {
    member = has-next A t ∙ f.lowest.member;
    below = first;
  };
}
  where
    first : (y : ℕ) → y < suc t → Out y A
    first zero l = has-low A ∙ ne_eqb (A % 2) 1 (λ e. omega arith)
    first (suc y) l = has-next A y ∙ f.lowest.below y (omega arith)

found_here : (w A d : ℕ) → A % 2 ≡ suc d → Found (suc w) A zero
found_here w A d odd = record {
  low = omega arith;
  lowest = record {
    member = has-low A ∙ eq-eqb (A % 2) 1 (omega arith);
    below = λ y l. absurd (omega arith);
  };
}

trailing_found : (w A : ℕ) → (A ≡ 0 → ⊥) → A < 2 ^ w → Found w A (count_trailing_zeros w A)
unfolding count_trailing_zeros
trailing_found zero A n l = absurd (n (omega arith))
trailing_found (suc w) A n l = go (A % 2) refl (λ e. trailing_found w (A / 2) (λ z. n (omega arith)) (omega (arith, pow-suc 2 w)))
  where
    go : (d : ℕ) → A % 2 ≡ d → (A % 2 ≡ 0 → Found w (A / 2) (count_trailing_zeros w (A / 2))) → Found (suc w) A (under d (count_trailing_zeros w (A / 2)))
    go zero e rest = found-next w A (count_trailing_zeros w (A / 2)) e (rest e)
    go (suc d) e rest = found_here w A d e

pub trailing_low : (w A : ℕ) → (A ≡ 0 → ⊥) → A < 2 ^ w → count_trailing_zeros w A < w
trailing_low w A n l = (trailing_found w A n l).low

pub trailing_lowest : (w A : ℕ) → (A ≡ 0 → ⊥) → A < 2 ^ w → Lowest (count_trailing_zeros w A) A
trailing_lowest w A n l = (trailing_found w A n l).lowest

-- the set without one atom
pub has_without : (w A k x : ℕ) → A < 2 ^ w → k < w → has (bit_and A (others w (2 ^ k))) x ≡ (has A x && not (eqb x k))
has_without w A k x l m =
    has_and A (others w (2 ^ k)) x
    ∙ ⊎_elim
    (λ h. ap (λ t. has A x && t) (has-others w (2 ^ k) x h (pow-lt m) ∙ ap not (has_one k x)))
    (λ h. and_left (has A x) _ (has_past w A x l h) ∙ sym (and_left (has A x) _ (has_past w A x l h)))
    (cases_lt x w)

-- the atom whose number is that of the zeros below the lowest digit that is set
pub lowest_atom : (A : ℕ) → A < 2 ^ width → (r : Result Atom Refusal) → AtomFrom (count_trailing_zeros width A) r → MatchOption (result_ok r) (A ≡ 0) (λ atom. Lowest atom.number A)
unfolding count_trailing_zeros
lowest_atom A l (Ok atom) h = subst (λ (x : ℕ). Lowest x A) (sym h.1) (trailing_lowest width A (λ e. let none : count_trailing_zeros width A ≡ 64 = ap (count_trailing_zeros width) e in omega arith) l)
lowest_atom A l (Err e) h = ⊎_elim (λ z. omega arith) (λ p. absurd (let low : count_trailing_zeros width A < width = trailing_low width A (λ e. omega arith) l in omega (arith, h.0))) (cases_lt A 1)

-- a clause on an Option, made weaker
pub option_weaker : {X : Type 0} (o : Option X) (P P' : Type 0) (Q Q' : X → Type 0) → MatchOption o P Q → (P → P') → ((x : X) → Q x → Q' x) → MatchOption o P' Q'
option_weaker (Some x) P P' Q Q' h f g = g x h
option_weaker None P P' Q Q' h f g = f h

-- a set loses in number where it loses an atom
pub without_less : (A B x : ℕ) → In x A → ((y : ℕ) → has B y ≡ (has A y && not (eqb y x))) → B < A
without_less A B x i is = agree-lt x B A
    (λ y l. is y ∙ ap (λ t. has A y && not t) (ne_eqb y x (λ e. omega arith)) ∙ and-true (has A y))
    (is x ∙ ap (λ t. has A x && not t) (eq-eqb x x refl) ∙ and-false (has A x))
    i

-- a set with a number from 2 ^ n on, and below 2 ^ (n + 1), has n for its greatest atom
pub highest_power : (n A : ℕ) → 2 ^ n ≤ A → A < 2 * 2 ^ n → Highest n A
highest_power n A low high = record { member = ⊎_elim (λ i. i) (λ o. absurd (omega (arith, below-width n A (within o)))) (cases_Bool (has A n)); above = above }
  where
    most : (x : ℕ) → In x A → x < suc n
    most x i = has-below (suc n) A x (omega (arith, pow-suc 2 n)) i

    within : Out n A → (x : ℕ) → In x A → x < n
    within o x i = ⊎_elim (λ (e : x ≡ n). not_both n A (subst (λ y. In y A) e i) o) (λ d. omega (arith, d, most x i)) (cases_eq x n)

    above : (y : ℕ) → n < y → Out y A
    above y l = out_from y A (λ i. absurd (omega (arith, most y i)))

-- the atom of that number
pub atom_highest : (A n : ℕ) → n < width → Highest n A → (r : Result Atom Refusal) → AtomFrom n r → MatchOption (result_ok r) (A ≡ 0) (λ a. Highest a.number A)
atom_highest A n l h (Err e) f = absurd (omega (arith, f.0))
atom_highest A n l h (Ok a) f = subst (λ (m : ℕ). Highest m A) (sym f.1) h
