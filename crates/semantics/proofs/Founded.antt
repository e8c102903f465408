-- The test `founded` decides `Founded`.
use Rattle.std.proofs.Common.{◌≡◌, ℕ, zero, suc, Bool, true, not, List, [], ◌∷◌, ◌++◌, sym, refl, ◌∙◌, subst, inl, inr, ⊎_elim, true≢false, append_assoc, append-nil, filter}
use Rattle.std.proofs.Math.Bool.{not-not}
use Rattle.std.proofs.lemmas.Bool.{not-true}
use Rattle.std.specs.List.Sorted.{IsPermutation}
use Rattle.std.proofs.lemmas.List.Sorted.{IsPermutation-refl, IsPermutation-sym, IsPermutation-trans, IsPermutation-append_left, IsPermutation-filter_both}
use Rattle.semantics.specs.Sets.{within, In}
use Rattle.semantics.specs.Rules.{Rule, Among, applicable, derived, founded}
use Rattle.semantics.specs.Founded.{Founded, Grounded, Heads}
use Rattle.semantics.specs.Statements.{Fits}
use Rattle.semantics.proofs.Sets.{decides_within}
use Rattle.semantics.proofs.Those.{those_in, those-out, in_left, in_right, in_either, in_none, in_shuffled}
use Rattle.semantics.proofs.Reducts.{applicable_sub, applicable-fits}
use Rattle.semantics.proofs.Derive.{derived-none, derived-out, derived_rises, derived-closed, founded_sub, sub_founded}

module _ {G : Type 0} where
  heads_right : (x : ℕ) (xs ys : List (Rule G)) → Heads x ys → Heads x (xs ++ ys)
  heads_right x xs ys h = (h.0, in_right xs ys h.0 h.1, h.2)

  grounded_more : (xs ys : List (Rule G)) → ((r : Rule G) → Among r xs → (y : ℕ) → In y r.pos → Heads y ys) → Grounded ys → Grounded (xs ++ ys)
  grounded_more [] ys f g = g
  grounded_more (r ∷ xs) ys f g = (λ y t. heads_right y xs ys (f r (inl refl) y t), grounded_more xs ys (λ s i. f s (inr i)) g)

module _ {G : Type 0} (Q : List (Rule G)) where
  -- the rule's needed atoms are all derived in n rounds
  ready : ℕ → Rule G → Bool
  ready n r = within r.pos (derived Q n)

  -- the rules that are ready in none of the first n rounds, and those that are, the latest first
  waiting : ℕ → List (Rule G)
  waiting zero = Q
  waiting (suc n) = filter (λ r. not (ready n r)) (waiting n)

  fired : ℕ → List (Rule G)
  fired zero = []
  fired (suc n) = filter (ready n) (waiting n) ++ fired n

  an_order : (n : ℕ) → IsPermutation Q (waiting n ++ fired n)
  unfolding waiting fired
  an_order zero = subst (IsPermutation Q) (sym (append-nil Q)) (IsPermutation-refl Q)
  an_order (suc n) =
      let late = filter (λ r. not (ready n r)) (waiting n) in
      let now = filter (ready n) (waiting n) in
      subst (IsPermutation Q) (append_assoc late now (fired n))
      (IsPermutation-trans Q (waiting n ++ fired n) ((late ++ now) ++ fired n) (an_order n) (IsPermutation-append_left (fired n) (waiting n) (late ++ now) (IsPermutation-filter_both (λ r. not (ready n r)) (ready n) (λ r. sym (not-not (ready n r))) (waiting n))))

  waiting_out : (n : ℕ) (r : Rule G) → Among r (waiting n) → Among r Q
  unfolding waiting
  waiting_out zero r i = i
  waiting_out (suc n) r i = waiting_out n r (those-out (λ s. not (ready n s)) (waiting n) r i).0

  heads_fired : (n x : ℕ) → In x (derived Q n) → Heads x (fired n)
  unfolding fired ready
  heads_fired zero x t = derived-none Q x t
  heads_fired (suc n) x t =
      let a = derived-out Q n x t in
      let r = a.0 in
      let now = filter (ready n) (waiting n) in (
        r,
        ⊎_elim (λ i. in_left now (fired n) r (those_in (ready n) (waiting n) r i ((decides_within r.pos (derived Q n)).1 a.2))) (λ i. in_right now (fired n) r i)
            (in_either (waiting n) (fired n) r (in_shuffled (waiting n ++ fired n) Q (IsPermutation-sym Q (waiting n ++ fired n) (an_order n)) r a.1)),
        a.3,
      )

  fired_grounded : (n : ℕ) → Grounded (fired n)
  unfolding fired ready
  fired_grounded zero = tt
  fired_grounded (suc n) =
      grounded_more (filter (ready n) (waiting n)) (fired n)
      (λ r i y t. heads_fired n y ((decides_within r.pos (derived Q n)).0 (those-out (ready n) (waiting n) r i).1 y t))
      (fired_grounded n)

  -- the heads of a grounded list of rules of Q are derived
  grounded-derived : (w : ℕ) → Fits w Q → (order : List (Rule G)) → ((r : Rule G) → Among r order → Among r Q) → Grounded order → (r : Rule G) → Among r order → In r.head (derived Q w)
  grounded-derived w fits [] sub g r i = absurd i
  grounded-derived w fits (s ∷ earlier) sub g r (inl e) =
      subst (λ (q : Rule G). In q.head (derived Q w)) (sym e)
      (derived-closed w Q fits s (sub s (inl refl)) λ y t.
      let h = g.0 y t in
      subst (λ (z : ℕ). In z (derived Q w)) h.2 (grounded-derived w fits earlier (λ q j. sub q (inr j)) g.1 h.0 h.1))
  grounded-derived w fits (s ∷ earlier) sub g r (inr i) = grounded-derived w fits earlier (λ q j. sub q (inr j)) g.1 r i

module _ {G : Type 0} (w : ℕ) (P : List (Rule G)) (A : ℕ) where
  pub founded_in : Fits w P → Founded P A → founded w P A ≡ true
  founded_in fits f =
      let Q = applicable A P in
      sub_founded w P A λ x t.
      let h = f.covers x t in
      subst (λ (z : ℕ). In z (derived Q w)) h.2
      (grounded-derived Q w (applicable-fits w A P fits) f.order (in_shuffled Q f.order f.orders) f.grounded h.0 h.1)

  pub founded-out : founded w P A ≡ true → Founded P A
  unfolding waiting fired ready
  founded-out t =
      record {
        order = fired Q (suc w);
        orders = subst (λ (l : List (Rule G)). IsPermutation Q (l ++ fired Q (suc w))) (in_none (waiting Q (suc w)) none) (an_order Q (suc w));
        grounded = fired_grounded Q (suc w);
        covers = λ x k. heads_fired Q (suc w) x (derived_rises Q w x (founded_sub w P A t x k));
      }
    where
      Q : List (Rule G)
      Q = applicable A P

      none : (r : Rule G) → Among r (waiting Q (suc w)) → ⊥
      none r i =
          let p = those-out (λ s. not (ready Q w s)) (waiting Q w) r i in
          let q = applicable_sub A P r (waiting_out Q w r p.0) in
          let go : ready Q w r ≡ true = (decides_within r.pos (derived Q w)).1 (λ y k. founded_sub w P A t y (q.1 y k)) in
          true≢false (sym go ∙ not-true (ready Q w r) p.1)
