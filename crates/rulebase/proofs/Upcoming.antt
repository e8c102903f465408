-- The stable sets one after the other: the next one of the list is the least that has not been passed.
use Rattle.std.proofs.Common.{◌≡◌, ℕ, zero, suc, ◌^◌, ◌<◌, ◌≤◌, Bool, true, false, cond, List, [], ◌∷◌, ◌++◌, length, Some, None, Option, sym, refl, ap, ◌∙◌, ap₂, ⊎_elim, append_assoc, append-nil, arith, MatchOption}
use Rattle.std.specs.List.{slice_get}
use Rattle.std.proofs.lemmas.List.{length_push}
use Rattle.std.proofs.lemmas.Bool.{cases_lt}
use Rattle.scale.specs.Laws.{Order}
use Rattle.semantics.specs.Rules.{Rule, stable, stable_below, stable_sets}
use Rattle.semantics.proofs.Sets.{false_from}
use Rattle.semantics.proofs.Objections.{stable_is_below}
use Rattle.search.specs.Admissible.{NoSuch, Least}

-- what stands after a front of a list, and past its end
pub nth-next : (xs ys : List ℕ) (a : ℕ) → slice_get (xs ++ a ∷ ys) (length xs) ≡ Some a
nth-next [] ys a = refl
nth-next (x ∷ xs) ys a = nth-next xs ys a

pub nth_end : (xs : List ℕ) → slice_get xs (length xs) ≡ None
nth_end [] = refl
nth_end (x ∷ xs) = nth_end xs

module _ {G : Type 0} (o : Order G) (w : ℕ) (P : List (Rule G)) where
  -- numbers that are not stable add nothing to the list
  pub skipped : (n m : ℕ) → n ≤ m → ((b : ℕ) → n ≤ b → b < m → stable o w P b ≡ false) → stable_below o w P m ≡ stable_below o w P n
  unfolding stable_below
  skipped n zero l f = ap (stable_below o w P) (let e : zero ≡ n = omega arith in e)
  skipped n (suc m) l f =
      ⊎_elim
      (λ (h : n < suc m).
      ap (λ (b : Bool). stable_below o w P m ++ cond b (m ∷ []) []) (f m (omega arith) (omega arith)) ∙ append-nil (stable_below o w P m)
      ∙ skipped n m (omega arith) (λ b i j. f b i (omega arith)))
      (λ (h : suc m ≤ n). ap (stable_below o w P) (let e : suc m ≡ n = omega arith in e))
      (cases_lt n (suc m))

  -- the list below n is a front of the list below m
  pub fronted : (n m : ℕ) → n ≤ m → (rest : List ℕ) × (stable_below o w P m ≡ stable_below o w P n ++ rest)
  unfolding stable_below
  fronted n zero l = ([], ap (stable_below o w P) (let e : zero ≡ n = omega arith in e) ∙ sym (append-nil (stable_below o w P n)))
  fronted n (suc m) l =
      ⊎_elim
      (λ (h : n < suc m).
      let p = fronted n m (omega arith) in
      let new : List ℕ = cond (stable o w P m) (m ∷ []) [] in
      (p.0 ++ new, ap (λ (xs : List ℕ). xs ++ new) p.1 ∙ append_assoc (stable_below o w P n) p.0 new))
      (λ (h : suc m ≤ n). ([], ap (stable_below o w P) (let e : suc m ≡ n = omega arith in e) ∙ sym (append-nil (stable_below o w P n))))
      (cases_lt n (suc m))

  -- A is stable, and not below n
  abbrev pub From : ℕ → ℕ → Type 0
  From n A = (stable o w P A ≡ true) × (n ≤ A)

  module _ (n : ℕ) where
    module _ (a : ℕ) (f : Least (From n) a) where
      pub found_list : stable_below o w P (suc a) ≡ stable_below o w P n ++ a ∷ []
      unfolding stable_below
      found_list =
          ap₂ (λ (xs : List ℕ) (b : Bool). xs ++ cond b (a ∷ []) [])
          (skipped n a f.passes.1 (λ b i j. false_from (stable o w P b) (λ t. let l = f.least b (t, i) in absurd (omega arith))))
          f.passes.0

      -- the least stable set from n on is the next one of the list
      pub found-next : slice_get (stable_sets o w P) (length (stable_below o w P n)) ≡ Some a
      unfolding stable_sets
      found-next =
          let low = stable_is_below o w P a f.passes.0 in
          let p = fronted (suc a) (2 ^ w) (omega arith) in
          ap (λ (xs : List ℕ). slice_get xs (length (stable_below o w P n)))
          (p.1 ∙ ap (λ (xs : List ℕ). xs ++ p.0) found_list ∙ append_assoc (stable_below o w P n) (a ∷ []) p.0)
          ∙ nth-next (stable_below o w P n) p.0 a

      pub found-count : length (stable_below o w P (suc a)) ≡ suc (length (stable_below o w P n))
      found-count = let e = ap length found_list ∙ length_push (stable_below o w P n) a in omega arith

    module _ (none : NoSuch (From n)) where
      -- with none left, all have been passed
      pub passed-all : stable_below o w P (2 ^ w) ≡ stable_below o w P n
      passed-all =
          ⊎_elim
          (λ (h : n < 2 ^ w). skipped n (2 ^ w) (omega arith) (λ b i j. false_from (stable o w P b) (λ t. none b (t, i))))
          (λ (h : 2 ^ w ≤ n). sym (skipped (2 ^ w) n h (λ b i j. false_from (stable o w P b) (λ t. let l = stable_is_below o w P b t in absurd (omega arith)))))
          (cases_lt n (2 ^ w))

      pub none-next : slice_get (stable_sets o w P) (length (stable_below o w P n)) ≡ None
      unfolding stable_sets
      none-next = ap (λ (xs : List ℕ). slice_get xs (length (stable_below o w P n))) passed-all ∙ nth_end (stable_below o w P n)

    -- either way, what a search from n on finds is the next one
    pub next_is : (r : Option ℕ) → MatchOption r (NoSuch (From n)) (Least (From n)) → r ≡ slice_get (stable_sets o w P) (length (stable_below o w P n))
    next_is None h = sym (none-next h)
    next_is (Some a) h = sym (found-next a h)
