-- The list of the stable sets.
use Rattle.std.proofs.Common.{◌≡◌, ℕ, zero, suc, ◌^◌, ◌<◌, Bool, true, false, cond, List, [], ◌∷◌, ◌++◌, sym, refl, ap, ◌∙◌, subst, inl, inr, ⊎_elim, true≢false, append-nil, arith}
use Rattle.scale.specs.Laws.{Order}
use Rattle.semantics.specs.Rules.{Rule, Among, stable, stable_below, stable_sets}
use Rattle.semantics.specs.Statements.{Rising, ListsStable}
use Rattle.semantics.proofs.Count.{at_last}
use Rattle.semantics.proofs.Objections.{stable_is_below}
use Rattle.semantics.proofs.Those.{in_left, in_right, in_either}

module _ {G : Type 0} (o : Order G) (w : ℕ) (P : List (Rule G)) where
  pub listed-out : (n A : ℕ) → Among A (stable_below o w P n) → (A < n) × (stable o w P A ≡ true)
  unfolding stable_below
  listed-out zero A i = absurd i
  listed-out (suc n) A i = ⊎_elim (λ j. let p = listed-out n A j in (omega (arith, p.0), p.1)) (last (stable o w P n) refl) (in_either (stable_below o w P n) (cond (stable o w P n) (n ∷ []) []) A i)
    where
      last : (b : Bool) → stable o w P n ≡ b → Among A (cond b (n ∷ []) []) → (A < suc n) × (stable o w P A ≡ true)
      last true e (inl d) = (omega arith, ap (stable o w P) d ∙ e)
      last true e (inr j) = absurd j
      last false e j = absurd j

  pub listed_in : (n A : ℕ) → A < n → stable o w P A ≡ true → Among A (stable_below o w P n)
  unfolding stable_below
  listed_in zero A l t = absurd (omega arith)
  listed_in (suc n) A l t = ⊎_elim (λ e. in_right (stable_below o w P n) _ A (last (stable o w P n) e refl)) (λ m. in_left (stable_below o w P n) _ A (listed_in n A m t)) (at_last A n l)
    where
      last : (b : Bool) → A ≡ n → stable o w P n ≡ b → Among A (cond b (n ∷ []) [])
      last true d e = inl d
      last false d e = absurd (true≢false (sym t ∙ (ap (stable o w P) d ∙ e)))

  rising_more : (xs : List ℕ) (n : ℕ) → ((y : ℕ) → Among y xs → y < n) → Rising xs → Rising (xs ++ (n ∷ []))
  rising_more [] n f c = (λ y i. absurd i, tt)
  rising_more (x ∷ xs) n f c =
      (λ y i. ⊎_elim (λ j. c.0 y j) (λ j. ⊎_elim (λ (e : y ≡ n). omega (arith, f x (inl refl))) (λ k. absurd k) j) (in_either xs (n ∷ []) y i), rising_more xs n (λ y i. f y (inr i)) c.1)

  pub rising : (n : ℕ) → Rising (stable_below o w P n)
  unfolding stable_below
  rising zero = tt
  rising (suc n) = go (stable o w P n) (rising n)
    where
      xs : List ℕ
      xs = stable_below o w P n

      go : (b : Bool) → Rising xs → Rising (xs ++ cond b (n ∷ []) [])
      go true c = rising_more xs n (λ y i. (listed-out n y i).0) c
      go false c = subst Rising (sym (append-nil xs)) c

  pub lists_stable : ListsStable o w P (stable_sets o w P)
  unfolding stable_sets
  lists_stable = record {
    all = λ A. (λ i. (listed-out (2 ^ w) A i).1, λ t. listed_in (2 ^ w) A (stable_is_below o w P A t) t);
    rising = rising (2 ^ w);
  }
