-- Readings: after how many steps they are fixed, and which graded sets they are.
use Rattle.std.proofs.Common.{◌≡◌, ℕ, true, List, sym, ap, ◌∙◌, subst}
use Rattle.std.proofs.lemmas.Bool.{eqb-true, eq-eqb}
use Rattle.scale.specs.Laws.{Order, above}
use Rattle.semantics.specs.Rules.{Rule, reduct, steps, consequences, support, reading, stable}
use Rattle.semantics.specs.Statements.{Fits, size}
use Rattle.semantics.proofs.Sets.{same_set}
use Rattle.semantics.proofs.Cuts.{cut-above, same_by_cuts}
use Rattle.semantics.proofs.Stages.{within as no-further, reached}
use Rattle.semantics.proofs.Reducts.{reduct-fits}
use Rattle.semantics.proofs.Objections.{support-has, support-below}

module _ {G : Type 0} (o : Order G) (w : ℕ) where
  -- graded sets with the same grades have the same support
  pub support-same : (c d : ℕ → G) → ((x : ℕ) → c x ≡ d x) → support o w c ≡ support o w d
  support-same c d e =
      same_set w (support o w c) (support o w d) (support-below o w c) (support-below o w d)
      (λ x l. support-has o w c x l ∙ (ap (above o) (e x) ∙ sym (support-has o w d x l)))

  pub consequences_settle : (P : List (Rule G)) → Fits w P → (x : ℕ) → steps o w P (size w (support o w (consequences o w P))) x ≡ consequences o w P x
  unfolding consequences
  consequences_settle P fits x =
      let A = support o w (consequences o w P) in
      same_by_cuts o _ _ (λ h cut t. no-further o w h cut P fits (size w A) x t)
      (λ h cut t. reached o w h cut P fits A (λ y l u. support-has o w (consequences o w P) y l ∙ cut-above o h cut (consequences o w P y) u) w x t)

  module _ (P : List (Rule G)) where
    pub reading_settles_lem : Fits w P → (A x : ℕ) → steps o w (reduct A P) (size w (support o w (reading o w P A))) x ≡ reading o w P A x
    unfolding reading
    reading_settles_lem fits A x = consequences_settle (reduct A P) (reduct-fits w A P fits) x

    -- c is the reading of its support
    pub reading-stable : (c : ℕ → G) → ((x : ℕ) → c x ≡ consequences o w (reduct (support o w c) P) x) → (stable o w P (support o w c) ≡ true) × ((x : ℕ) → c x ≡ reading o w P (support o w c) x)
    unfolding stable reading
    reading-stable c e = let A = support o w c in (eq-eqb A (support o w (reading o w P A)) (support-same c (reading o w P A) e), e)

    pub stable-reading : (c : ℕ → G) → (stable o w P (support o w c) ≡ true) × ((x : ℕ) → c x ≡ reading o w P (support o w c) x) → (x : ℕ) → c x ≡ consequences o w (reduct (support o w c) P) x
    unfolding reading
    stable-reading c e = e.1

    pub stable_supports : (A : ℕ) → stable o w P A ≡ true → (c : ℕ → G) × (support o w c ≡ A) × ((x : ℕ) → c x ≡ consequences o w (reduct (support o w c) P) x)
    unfolding stable reading
    stable_supports A t =
        let e : A ≡ support o w (reading o w P A) = eqb-true A (support o w (reading o w P A)) t in
        (reading o w P A, sym e, λ x. ap (λ B. consequences o w (reduct B P) x) e)

    pub supports_stable : (A : ℕ) → (c : ℕ → G) × (support o w c ≡ A) × ((x : ℕ) → c x ≡ consequences o w (reduct (support o w c) P) x) → stable o w P A ≡ true
    supports_stable A a = subst (λ (B : ℕ). stable o w P B ≡ true) a.1 (reading-stable a.0 a.2).0
