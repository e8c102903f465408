-- What a cut says of a least and of a greatest.
use Rattle.std.proofs.Common.{◌≡◌, ℕ, zero, suc, ◌<◌, Bool, true, false, cond, List, [], ◌∷◌, sym, refl, ap, ◌∙◌, inl, inr, ⊎_elim, true≢false, arith}
use Rattle.std.proofs.lemmas.Bool.{and_parts, and_from, and_cases, or_cases, or_left, or_right}
use Rattle.scale.specs.Laws.{Order, greater, lesser}
use Rattle.semantics.specs.Rules.{Rule, Among, least_below, greatest_of}
use Rattle.semantics.proofs.Cuts.{Cut, cut-greater, cut-lesser}
use Rattle.semantics.proofs.Count.{at_last}

module _ {G : Type 0} (o : Order G) (h : G → Bool) (cut : Cut o h) where
  module _ (keep : ℕ → Bool) (f : ℕ → G) where
    pub least_in : (n : ℕ) → ((A : ℕ) → A < n → keep A ≡ true → h (f A) ≡ true) → h (least_below o n keep f) ≡ true
    unfolding least_below
    least_in zero k = cut.holds_top
    least_in (suc n) k = go (keep n) refl (least_in n (λ A l. k A (omega arith)))
      where
        rest : G
        rest = least_below o n keep f

        go : (t : Bool) → keep n ≡ t → h rest ≡ true → h (cond t (lesser o (f n) rest) rest) ≡ true
        go true e ih = cut-lesser o h cut (f n) rest ∙ and_from (h (f n)) (h rest) (k n (omega arith) e) ih
        go false e ih = ih

    last_two : (n : ℕ) → h (least_below o (suc n) keep f) ≡ true → (keep n ≡ true → h (f n) ≡ true) × (h (least_below o n keep f) ≡ true)
    unfolding least_below
    last_two n = go (keep n) refl
      where
        rest : G
        rest = least_below o n keep f

        go : (t : Bool) → keep n ≡ t → h (cond t (lesser o (f n) rest) rest) ≡ true → (keep n ≡ true → h (f n) ≡ true) × (h rest ≡ true)
        go true e t = let p = and_parts (h (f n)) (h rest) (sym (cut-lesser o h cut (f n) rest) ∙ t) in (λ k. p.0, p.1)
        go false e t = (λ k. absurd (true≢false (sym k ∙ e)), t)

    pub least-out : (n : ℕ) → h (least_below o n keep f) ≡ true → (A : ℕ) → A < n → keep A ≡ true → h (f A) ≡ true
    least-out zero t A l k = absurd (omega arith)
    least-out (suc n) t A l k =
        let p = last_two n t in
        ⊎_elim (λ (e : A ≡ n). ap (λ B. h (f B)) e ∙ p.0 (ap keep (sym e) ∙ k)) (λ m. least-out n p.1 A m k) (at_last A n l)

    pub least_miss : (n : ℕ) → h (least_below o n keep f) ≡ false → (A : ℕ) × (A < n) × (keep A ≡ true) × (h (f A) ≡ false)
    unfolding least_below
    least_miss zero t = absurd (true≢false (sym cut.holds_top ∙ t))
    least_miss (suc n) t = go (keep n) refl t (least_miss n)
      where
        rest : G
        rest = least_below o n keep f

        Miss : ℕ → Type 0
        Miss m = (A : ℕ) × (A < m) × (keep A ≡ true) × (h (f A) ≡ false)

        more : Miss n → Miss (suc n)
        more a = (a.0, omega (arith, a.1), a.2, a.3)

        go : (b : Bool) → keep n ≡ b → h (cond b (lesser o (f n) rest) rest) ≡ false → (h rest ≡ false → Miss n) → Miss (suc n)
        go true e u ih = ⊎_elim (λ v. (n, omega arith, e, v)) (λ v. more (ih v)) (and_cases (h (f n)) (h rest) (sym (cut-lesser o h cut (f n) rest) ∙ u))
        go false e u ih = more (ih u)

  module _ (keep : Rule G → Bool) (f : Rule G → G) where
    pub greatest_in : (P : List (Rule G)) (r : Rule G) → Among r P → keep r ≡ true → h (f r) ≡ true → h (greatest_of o keep f P) ≡ true
    unfolding greatest_of
    greatest_in [] r i k t = absurd i
    greatest_in (s ∷ P) r (inl e) k t = go (keep s) refl
      where
        rest : G
        rest = greatest_of o keep f P

        go : (b : Bool) → keep s ≡ b → h (cond b (greater o (f s) rest) rest) ≡ true
        go true d = cut-greater o h cut (f s) rest ∙ or_left (h (f s)) (h rest) (ap (λ x. h (f x)) (sym e) ∙ t)
        go false d = absurd (true≢false (sym k ∙ (ap keep e ∙ d)))
    greatest_in (s ∷ P) r (inr i) k t = go (keep s) (greatest_in P r i k t)
      where
        rest : G
        rest = greatest_of o keep f P

        go : (b : Bool) → h rest ≡ true → h (cond b (greater o (f s) rest) rest) ≡ true
        go true u = cut-greater o h cut (f s) rest ∙ or_right (h (f s)) (h rest) u
        go false u = u

    pub greatest-out : (P : List (Rule G)) → h (greatest_of o keep f P) ≡ true → (r : Rule G) × Among r P × (keep r ≡ true) × (h (f r) ≡ true)
    unfolding greatest_of
    greatest-out [] t = absurd (true≢false (sym t ∙ cut.out))
    greatest-out (s ∷ P) t = go (keep s) refl t (greatest-out P)
      where
        rest : G
        rest = greatest_of o keep f P

        Found : List (Rule G) → Type 0
        Found Q = (r : Rule G) × Among r Q × (keep r ≡ true) × (h (f r) ≡ true)

        more : Found P → Found (s ∷ P)
        more a = (a.0, inr a.1, a.2, a.3)

        go : (b : Bool) → keep s ≡ b → h (cond b (greater o (f s) rest) rest) ≡ true → (h rest ≡ true → Found P) → Found (s ∷ P)
        go true e u ih = ⊎_elim (λ v. (s, inl refl, e, v)) (λ v. more (ih v)) (or_cases (h (f s)) (h rest) (sym (cut-greater o h cut (f s) rest) ∙ u))
        go false e u ih = more (ih u)
