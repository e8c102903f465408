-- What passes a test in a list, and what an order of a list has.
use Rattle.std.proofs.Common.{◌≡◌, Bool, true, false, cond, ◌⊎◌, List, [], ◌∷◌, ◌++◌, sym, refl, ap, ◌∙◌, subst, inl, inr, ⊎_elim, true≢false, filter}
use Rattle.std.specs.List.{All}
use Rattle.std.specs.List.Sorted.{IsPermutation}
use Rattle.std.proofs.lemmas.List.Sorted.{All-permutation}
use Rattle.std.proofs.lemmas.List.Elements.{All-nil, All-cons, All-head, All-tail}
use Rattle.semantics.specs.Rules.{Among}

module _ {X : Type 0} where
  module _ (p : X → Bool) where
    pub those-out : (xs : List X) (r : X) → Among r (filter p xs) → Among r xs × (p r ≡ true)
    those-out [] r i = absurd i
    those-out (s ∷ xs) r i = go (p s) refl i (those-out xs r)
      where
        go : (b : Bool) → p s ≡ b → Among r (cond b (s ∷ filter p xs) (filter p xs)) → (Among r (filter p xs) → Among r xs × (p r ≡ true)) → ((r ≡ s) ⊎ Among r xs) × (p r ≡ true)
        go true e (inl d) ih = (inl d, ap p d ∙ e)
        go true e (inr j) ih = (inr (ih j).0, (ih j).1)
        go false e j ih = (inr (ih j).0, (ih j).1)

    pub those_in : (xs : List X) (r : X) → Among r xs → p r ≡ true → Among r (filter p xs)
    those_in [] r i t = absurd i
    those_in (s ∷ xs) r (inl d) t = go (p s) refl
      where
        go : (b : Bool) → p s ≡ b → Among r (cond b (s ∷ filter p xs) (filter p xs))
        go true e = inl d
        go false e = absurd (true≢false (sym t ∙ (ap p d ∙ e)))
    those_in (s ∷ xs) r (inr i) t = go (p s) (those_in xs r i t)
      where
        go : (b : Bool) → Among r (filter p xs) → Among r (cond b (s ∷ filter p xs) (filter p xs))
        go true j = inr j
        go false j = j

  pub in_left : (xs ys : List X) (r : X) → Among r xs → Among r (xs ++ ys)
  in_left [] ys r i = absurd i
  in_left (x ∷ xs) ys r (inl e) = inl e
  in_left (x ∷ xs) ys r (inr i) = inr (in_left xs ys r i)

  pub in_right : (xs ys : List X) (r : X) → Among r ys → Among r (xs ++ ys)
  in_right [] ys r i = i
  in_right (x ∷ xs) ys r i = inr (in_right xs ys r i)

  pub in_either : (xs ys : List X) (r : X) → Among r (xs ++ ys) → Among r xs ⊎ Among r ys
  in_either [] ys r i = inr i
  in_either (x ∷ xs) ys r (inl e) = inl (inl e)
  in_either (x ∷ xs) ys r (inr i) = ⊎_elim (λ j. inl (inr j)) inr (in_either xs ys r i)

  pub in_none : (xs : List X) → ((r : X) → Among r xs → ⊥) → xs ≡ []
  in_none [] f = refl
  in_none (x ∷ xs) f = absurd (f x (inl refl))

  all_in : (P : X → Type 0) (xs : List X) → All P xs → (r : X) → Among r xs → P r
  all_in P [] a r i = absurd i
  all_in P (x ∷ xs) a r (inl e) = subst P (sym e) (All-head P x xs a)
  all_in P (x ∷ xs) a r (inr i) = all_in P xs (All-tail P x xs a) r i

  all_of : (P : X → Type 0) (xs : List X) → ((r : X) → Among r xs → P r) → All P xs
  all_of P [] f = All-nil P
  all_of P (x ∷ xs) f = All-cons P x xs (f x (inl refl)) (all_of P xs (λ r i. f r (inr i)))

  -- an order of a list has what the list has
  pub in_shuffled : (xs ys : List X) → IsPermutation xs ys → (r : X) → Among r ys → Among r xs
  in_shuffled xs ys s = all_in (λ r. Among r xs) ys (All-permutation (λ r. Among r xs) xs ys s (all_of (λ r. Among r xs) xs (λ r i. i)))
