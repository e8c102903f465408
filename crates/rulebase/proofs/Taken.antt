-- The value at a place of a list, and what lies before it and after it.
use Rattle.std.proofs.Common.{◌≡◌, ℕ, zero, suc, List, [], ◌∷◌, length, take, drop, Some, None, sym, refl, inl, inr, arith}
use Rattle.std.specs.List.{slice_get}
use Rattle.semantics.specs.Rules.{Among}
use Rattle.semantics.specs.Statements.{Rising}

none-some : {A : Type 0} (x : A) → None ≡ Some x → ⊥
none-some x e = let z : ◌≡◌ {A = ℕ} 0 1 = cc in omega arith

-- what is left after k of a list
pub left-none : {A : Type 0} (xs : List A) (k : ℕ) → slice_get xs k ≡ None → drop k xs ≡ []
left-none [] zero e = refl
left-none [] (suc k) e = refl
left-none (x ∷ xs) zero e = absurd (none-some x (sym e))
left-none (x ∷ xs) (suc k) e = left-none xs k e

pub left_more : {A : Type 0} (xs : List A) (k : ℕ) (a : A) → slice_get xs k ≡ Some a → drop k xs ≡ a ∷ drop (suc k) xs
left_more [] k a e = absurd (none-some a e)
left_more (x ∷ xs) zero a e = cc
left_more (x ∷ xs) (suc k) a e = left_more xs k a e

pub nth_among : {A : Type 0} (xs : List A) (k : ℕ) (a : A) → slice_get xs k ≡ Some a → Among a xs
nth_among [] k a e = absurd (none-some a e)
nth_among (x ∷ xs) zero a e = inl (cc)
nth_among (x ∷ xs) (suc k) a e = inr (nth_among xs k a e)

-- nothing comes after the taken part: it has all
pub all_taken : {A : Type 0} (xs : List A) (f : ℕ) (a : A) → slice_get xs (length (take f xs)) ≡ None → Among a xs → Among a (take f xs)
all_taken [] f a e i = absurd i
all_taken (x ∷ xs) zero a e i = absurd (none-some x (sym e))
all_taken (x ∷ xs) (suc f) a e (inl d) = inl d
all_taken (x ∷ xs) (suc f) a e (inr i) = inr (all_taken xs f a e i)

-- in a rising list, what comes after the taken part is not in it
pub not_taken : (xs : List ℕ) (f a : ℕ) → Rising xs → slice_get xs (length (take f xs)) ≡ Some a → Among a (take f xs) → ⊥
not_taken [] zero a c e i = i
not_taken [] (suc f) a c e i = i
not_taken (x ∷ xs) zero a c e i = i
not_taken (x ∷ xs) (suc f) a c e (inl d) = omega (arith, c.0 a (nth_among xs (length (take f xs)) a e))
not_taken (x ∷ xs) (suc f) a c e (inr i) = not_taken xs f a c.1 e i
