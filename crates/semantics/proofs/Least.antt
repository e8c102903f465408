-- The least and the greatest are attained.
use Rattle.std.proofs.Common.{◌≡◌, ℕ, zero, suc, ◌^◌, ◌<◌, Bool, true, false, cond, not, ◌⊎◌, List, [], ◌∷◌, sym, refl, ap, ◌∙◌, subst, inl, inr, ⊎_elim, true≢false, arith, pow_pos}
use Rattle.std.proofs.lemmas.Bool.{cases_Bool}
use Rattle.scale.specs.Laws.{Order, greater, lesser}
use Rattle.semantics.specs.Sets.{has}
use Rattle.semantics.specs.Rules.{Rule, Among, positive, reduct, breaks, founded, least_below, greatest_of, worst, objection, least_among, necessity, conflict, reading}
use Rattle.semantics.specs.Statements.{Fits, LeastOf}
use Rattle.semantics.proofs.Sets.{none_in}
use Rattle.semantics.proofs.Cuts.{le_by_cuts}
use Rattle.semantics.proofs.Count.{at_last}
use Rattle.semantics.proofs.Bests.{least-out}
use Rattle.semantics.proofs.Reducts.{reduct-out, reduct-fits}
use Rattle.semantics.proofs.Derive.{sub_founded}
use Rattle.semantics.proofs.Objections.{objection-founded, objection_unfounded, necessity_is_grade}

module _ {G : Type 0} (o : Order G) where
  module _ (test : ℕ → Bool) (f : ℕ → G) where
    -- the least is one of those below n that pass the test, or none passes and it is the top
    abbrev Attained : ℕ → Type 0
    Attained n = (A : ℕ) × (A < n) × (test A ≡ true) × (f A ≡ least_below o n test f)

    abbrev Empty : ℕ → Type 0
    Empty n = ((A : ℕ) → A < n → test A ≡ true → ⊥) × (least_below o n test f ≡ o.top)

    least-fork : (n : ℕ) → Attained n ⊎ Empty n
    unfolding least_below lesser
    least-fork zero = inr (λ A l t. omega arith, refl)
    least-fork (suc n) = go (test n) refl (least-fork n)
      where
        rest : G
        rest = least_below o n test f

        Found : G → Type 0
        Found g = (A : ℕ) × (A < suc n) × (test A ≡ true) × (f A ≡ g)

        more : Attained n → Found rest
        more a = (a.0, omega (arith, a.1), a.2, a.3)

        pick : (b : Bool) → o.at_most (f n) rest ≡ b → test n ≡ true → Attained n ⊎ Empty n → Found (cond b (f n) rest)
        pick true e t k = (n, omega arith, t, refl)
        pick false e t (inl a) = more a
        pick false e t (inr k) = absurd (true≢false (sym (o.greatest (f n)) ∙ (ap (o.at_most (f n)) (sym k.1) ∙ e)))

        go : (b : Bool) → test n ≡ b → Attained n ⊎ Empty n → Found (cond b (cond (o.at_most (f n) rest) (f n) rest) rest) ⊎ (((A : ℕ) → A < suc n → test A ≡ true → ⊥) × (cond b (cond (o.at_most (f n) rest) (f n) rest) rest ≡ o.top))
        go true t k = inl (pick (o.at_most (f n) rest) refl t k)
        go false t (inl a) = inl (more a)
        go false t (inr k) = inr (λ A l u. ⊎_elim (λ (e : A ≡ n). true≢false (sym u ∙ (ap test e ∙ t))) (λ m. k.0 A m u) (at_last A n l), k.1)

  pub least_is_least : (w : ℕ) (test : ℕ → Bool) (f : ℕ → G) → LeastOf o w (least_among o w test f) test f
  unfolding least_among
  least_is_least w test f = record {
    below = λ A l t. le_by_cuts o (least_below o (2 ^ w) test f) (f A) (λ h cut k. least-out o h cut test f (2 ^ w) k A l t);
    attained = λ B l t. ⊎_elim (λ a. a) (λ k. absurd (k.0 B l t)) (least-fork test f (2 ^ w));
    none = λ k. ⊎_elim (λ a. absurd (k a.0 a.1 a.2)) (λ e. e.1) (least-fork test f (2 ^ w));
  }

  -- the greatest is the bottom, or that of a rule
  pub greatest-fork : (test : Rule G → Bool) (f : Rule G → G) (P : List (Rule G)) → (greatest_of o test f P ≡ o.bottom) ⊎ ((r : Rule G) × Among r P × (f r ≡ greatest_of o test f P))
  unfolding greatest_of greater
  greatest-fork test f [] = inl refl
  greatest-fork test f (s ∷ P) = go (test s) (greatest-fork test f P)
    where
      rest : G
      rest = greatest_of o test f P

      Held : List (Rule G) → G → Type 0
      Held Q g = (g ≡ o.bottom) ⊎ ((r : Rule G) × Among r Q × (f r ≡ g))

      more : Held P rest → Held (s ∷ P) rest
      more (inl e) = inl e
      more (inr a) = inr (a.0, inr a.1, a.2)

      pick : (b : Bool) → Held P rest → Held (s ∷ P) (cond b rest (f s))
      pick true k = more k
      pick false k = inr (s, inl refl, refl)

      go : (b : Bool) → Held P rest → Held (s ∷ P) (cond b (cond (o.at_most (f s) rest) rest (f s)) rest)
      go true k = pick (o.at_most (f s) rest) k
      go false k = more k

  module _ (w : ℕ) (P : List (Rule G)) where
    pub necessity_least : (x : ℕ) → LeastOf o w (necessity o w P x) (λ A. not (has A x)) (objection o w P)
    unfolding necessity
    necessity_least x = least_is_least w (λ A. not (has A x)) (objection o w P)

    pub conflict_least : LeastOf o w (conflict o w P) (λ A. true) (λ A. objection o w (reduct A P) A)
    unfolding conflict
    conflict_least = least_is_least w (λ A. true) (λ A. objection o w (reduct A P) A)

    -- the objection to a founded set is the bottom or the grade of a rule
    held_at : (A : ℕ) (g : G) → founded w (reduct A P) A ≡ true → objection o w (reduct A P) A ≡ g → (g ≡ o.bottom) ⊎ ((r : Rule G) × Among r P × (r.grade ≡ g))
    unfolding worst positive
    held_at A g t e =
        let is : worst o A (reduct A P) ≡ g = sym (objection-founded o w (reduct A P) A t) ∙ e in
        ⊎_elim (λ b. inl (sym is ∙ b))
        (λ a. let s = reduct-out A P a.0 a.1 in inr (s.0, s.1, ap (λ (r : Rule G). r.grade) (sym s.3) ∙ (a.2 ∙ is)))
        (greatest-fork (breaks A) (λ r. r.grade) (reduct A P))

    empty_founded : founded w (reduct 0 P) 0 ≡ true
    empty_founded = sub_founded w (reduct 0 P) 0 (λ x t. none_in x t)

    pub conflict_held : (conflict o w P ≡ o.bottom) ⊎ ((r : Rule G) × Among r P × (r.grade ≡ conflict o w P))
    conflict_held =
        let a = conflict_least.attained 0 (pow_pos w) refl in
        ⊎_elim (λ t. held_at a.0 (conflict o w P) t a.3)
        (λ n. held_at 0 (conflict o w P) empty_founded (low (sym a.3 ∙ objection_unfounded o w (reduct a.0 P) a.0 n)))
        (cases_Bool (founded w (reduct a.0 P) a.0))
      where
        -- where the conflict is the top, so is the objection to the empty set
        low : conflict o w P ≡ o.top → objection o w (reduct 0 P) 0 ≡ conflict o w P
        low e =
            o.antisymmetric (objection o w (reduct 0 P) 0) (conflict o w P)
            (subst (λ (g : G). o.at_most (objection o w (reduct 0 P) 0) g ≡ true) (sym e) (o.greatest (objection o w (reduct 0 P) 0)))
            (conflict_least.below 0 (pow_pos w) refl)

module _ {G : Type 0} (o : Order G) (w : ℕ) (P : List (Rule G)) where
  -- the grades of a reading are necessities in the reduct
  pub grades_least : Fits w P → (A x : ℕ) → x < w → LeastOf o w (reading o w P A x) (λ B. not (has B x)) (objection o w (reduct A P))
  unfolding reading
  grades_least fits A x l =
      subst (λ (g : G). LeastOf o w g (λ B. not (has B x)) (objection o w (reduct A P)))
      (necessity_is_grade o w (reduct A P) (reduct-fits w A P fits) x l) (necessity_least o w (reduct A P) x)
