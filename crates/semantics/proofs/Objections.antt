-- Objections, necessity and conflict, seen through a cut.
use Rattle.std.proofs.Common.{◌≡◌, ℕ, zero, suc, ◌^◌, ◌<◌, Bool, true, false, not, List, sym, refl, ap, ◌∙◌, subst, ⊎_elim, true≢false}
use Rattle.std.proofs.lemmas.Bool.{and_parts, and_from, eqb-true, eq-eqb, not-true, not_from_false, cases_Bool, cond-true, cond-false}
use Rattle.scale.specs.Laws.{Order, above}
use Rattle.semantics.specs.Sets.{has, within, collect, In}
use Rattle.semantics.specs.Rules.{Rule, Among, reduct, applicable, breaks, worst, derived, steps, consequences, support, reading, stable, founded, objection, least_among, necessity, conflict}
use Rattle.semantics.specs.Statements.{Fits, Graded}
use Rattle.semantics.proofs.Sets.{false_from, has-below, same_set, same_truth, within_has, within_from, collect-below, collect-has}
use Rattle.semantics.proofs.Cuts.{Cut, above-cut, bot_of, same_by_cuts}
use Rattle.semantics.proofs.Bests.{least_in, least-out, least_miss, greatest_in, greatest-out}
use Rattle.semantics.proofs.Stages.{Fires, step_in, step-out, within as no-further, closed}
use Rattle.semantics.proofs.Reducts.{applicable-out, applicable_in, applicable-fits, reduct-fits, reduct-graded}
use Rattle.semantics.proofs.Derive.{derived-none, derived_in, derived-out, derived-grows, founded_sub, sub_founded}

module _ {G : Type 0} (o : Order G) (w : ℕ) where
  pub support-has : (c : ℕ → G) (x : ℕ) → x < w → has (support o w c) x ≡ above o (c x)
  unfolding support
  support-has c x l = collect-has w (λ y. above o (c y)) x l

  pub support-below : (c : ℕ → G) → support o w c < 2 ^ w
  unfolding support
  support-below c = collect-below w (λ y. above o (c y))

  pub objection-founded : (P : List (Rule G)) (A : ℕ) → founded w P A ≡ true → objection o w P A ≡ worst o A P
  unfolding objection
  objection-founded P A t = cond-true (founded w P A) (worst o A P) o.top t

  pub objection_unfounded : (P : List (Rule G)) (A : ℕ) → founded w P A ≡ false → objection o w P A ≡ o.top
  unfolding objection
  objection_unfounded P A t = cond-false (founded w P A) (worst o A P) o.top t

  pub stable_is_below : (P : List (Rule G)) (A : ℕ) → stable o w P A ≡ true → A < 2 ^ w
  unfolding stable
  stable_is_below P A t = subst (λ (B : ℕ). B < 2 ^ w) (sym (eqb-true A (support o w (reading o w P A)) t)) (support-below (reading o w P A))

module _ {G : Type 0} (o : Order G) (w : ℕ) (P : List (Rule G)) (fits : Fits w P) where
  -- what is above the bottom after n steps is derived in n rounds
  pub steps-derived : (h : G → Bool) (cut : Cut o h) (n x : ℕ) → h (steps o w P n x) ≡ true → In x (derived P n)
  unfolding steps
  steps-derived h cut zero x t = absurd (true≢false (sym t ∙ cut.out))
  steps-derived h cut (suc n) x t =
      let f = step-out o w h cut P (steps o w P n) x t in
      let r = f.rule in
      subst (λ (y : ℕ). In y (derived P (suc n))) f.heads
      (derived_in P n r f.occurs (λ y k. steps-derived h cut n y (f.needs y (has-below w r.pos y (fits r f.occurs).1 k) k)))

  -- and, where no rule has the bottom grade, the other way round
  pub derived-steps : Graded o P → (n x : ℕ) → In x (derived P n) → above o (steps o w P n x) ≡ true
  unfolding steps
  derived-steps graded zero x t = derived-none P x t
  derived-steps graded (suc n) x t =
      let a = derived-out P n x t in
      step_in o w (above o) (above-cut o) P (steps o w P n) x
      (record { rule = a.0; occurs = a.1; heads = a.3; graded = graded a.0 a.1; needs = λ y l k. derived-steps graded n y (a.2 y k) })

module _ {G : Type 0} (o : Order G) (w : ℕ) (P : List (Rule G)) (fits : Fits w P) where
  module _ (h : G → Bool) (cut : Cut o h) where
    -- a set that breaks no rule of the cut holds every atom whose grade is in the cut
    pub swallows : (A : ℕ) → h (worst o A P) ≡ false → (n x : ℕ) → h (steps o w P n x) ≡ true → has A x ≡ true
    unfolding steps worst breaks
    swallows A none zero x t = absurd (true≢false (sym t ∙ cut.out))
    swallows A none (suc n) x t =
        let f = step-out o w h cut P (steps o w P n) x t in
        let r = f.rule in
        let all : within r.pos A ≡ true = within_from w r.pos A (fits r f.occurs).1 (λ y l k. swallows A none n y (f.needs y l k)) in
        ⊎_elim (λ (e : has A r.head ≡ true). ap (has A) (sym f.heads) ∙ e)
        (λ (e : has A r.head ≡ false).
        let broken : breaks A r ≡ true = and_from (within r.pos A) (not (has A r.head)) all (not_from_false (has A r.head) e) in
        absurd (true≢false (sym (greatest_in o h cut (breaks A) (λ s. s.grade) P r f.occurs broken f.graded) ∙ none)))
        (cases_Bool (has A r.head))

    -- the atoms whose grade is in the cut
    pub model : ℕ
    model = collect w (λ x. h (consequences o w P x))

    pub model-has : (x : ℕ) → x < w → has model x ≡ h (consequences o w P x)
    unfolding model
    model-has x l = collect-has w (λ y. h (consequences o w P y)) x l

    pub model-below : model < 2 ^ w
    unfolding model
    model-below = collect-below w (λ y. h (consequences o w P y))

    -- they break no rule of the cut
    pub model_breaks_none : h (worst o model P) ≡ false
    unfolding worst breaks
    model_breaks_none = false_from (h (worst o model P)) clash
      where
        clash : h (worst o model P) ≡ true → ⊥
        clash t =
            let a = greatest-out o h cut (breaks model) (λ s. s.grade) P t in
            let r = a.0 in
            let p = and_parts (within r.pos model) (not (has model r.head)) a.2 in
            let lacks : has model r.head ≡ false = not-true (has model r.head) p.1 in
            let f : Fires h w P (λ y. h (consequences o w P y)) r.head = record { rule = r; occurs = a.1; heads = refl; graded = a.3; needs = λ y l k. sym (model-has y l) ∙ within_has r.pos model y p.0 k } in
            true≢false (sym (model-has r.head (fits r a.1).0 ∙ closed o w h cut P fits r.head f) ∙ lacks)

    -- and follow from the rules that they make applicable
    pub model-derived : (n x : ℕ) → h (steps o w P n x) ≡ true → h (steps o w (applicable model P) n x) ≡ true
    unfolding steps
    model-derived zero x t = t
    model-derived (suc n) x t =
        let f = step-out o w h cut P (steps o w P n) x t in
        let r = f.rule in
        let all : within r.pos model ≡ true = within_from w r.pos model (fits r f.occurs).1 (λ y l k. model-has y l ∙ no-further o w h cut P fits n y (f.needs y l k)) in
        step_in o w h cut (applicable model P) (steps o w (applicable model P) n) x
        (record { rule = r; occurs = applicable_in model P r f.occurs all; heads = f.heads; graded = f.graded; needs = λ y l k. model-derived n y (f.needs y l k) })

    pub model-founded : founded w P model ≡ true
    unfolding consequences
    model-founded =
        let A = model in
        sub_founded w P A λ x t.
        let l : x < w = has-below w A x (model-below) t in
        steps-derived o w (applicable A P) (applicable-fits w A P fits) h cut w x (model-derived w x (sym (model-has x l) ∙ t))

    pub model-objection : h (objection o w P model) ≡ false
    model-objection = ap h (objection-founded o w P model model-founded) ∙ model_breaks_none

    -- the cut holds the necessity of an atom if it holds its grade
    pub necessity-up : (x : ℕ) → h (consequences o w P x) ≡ true → h (necessity o w P x) ≡ true
    unfolding necessity least_among consequences
    necessity-up x t = least_in o h cut (λ A. not (has A x)) (objection o w P) (2 ^ w) λ A l lacks.
        ⊎_elim (λ (e : founded w P A ≡ true).
        ap h (objection-founded o w P A e) ∙
        ⊎_elim (λ (u : h (worst o A P) ≡ true). u) (λ u. absurd (true≢false (sym (swallows A u w x t) ∙ not-true (has A x) lacks))) (cases_Bool (h (worst o A P))))
        (λ e. ap h (objection_unfounded o w P A e) ∙ cut.holds_top)
        (cases_Bool (founded w P A))

    pub necessity_down : (x : ℕ) → x < w → h (necessity o w P x) ≡ true → h (consequences o w P x) ≡ true
    unfolding necessity least_among
    necessity_down x l t = ⊎_elim (λ (e : h (consequences o w P x) ≡ true). e) (λ e. absurd (clash e)) (cases_Bool (h (consequences o w P x)))
      where
        A : ℕ
        A = model

        clash : h (consequences o w P x) ≡ false → ⊥
        clash e = true≢false (sym (least-out o h cut (λ B. not (has B x)) (objection o w P) (2 ^ w) t A (model-below) (not_from_false (has A x) (model-has x l ∙ e))) ∙ model-objection)

  -- the necessity of an atom is its grade in the consequences
  pub necessity_is_grade : (x : ℕ) → x < w → necessity o w P x ≡ consequences o w P x
  necessity_is_grade x l = same_by_cuts o _ _ (λ h cut. necessity_down h cut x l) (λ h cut. necessity-up h cut x)

  least-model : model (above o) (above-cut o) ≡ support o w (consequences o w P)
  unfolding model support
  least-model = refl

  -- nothing is held against A where it is founded and breaks no rule
  pub none_opposes : (A : ℕ) → founded w P A ≡ true → ((r : Rule G) → Among r P → breaks A r ≡ false) → objection o w P A ≡ o.bottom
  unfolding worst
  none_opposes A t f = objection-founded o w P A t ∙ bot_of o (worst o A P) (false_from (above o (worst o A P)) clash)
    where
      clash : above o (worst o A P) ≡ true → ⊥
      clash u = let a = greatest-out o (above o) (above-cut o) (breaks A) (λ s. s.grade) P u in true≢false (sym a.2 ∙ f a.0 a.1)

  pub unopposed_founded : (A : ℕ) → objection o w P A ≡ o.bottom → (founded w P A ≡ true) × (above o (worst o A P) ≡ false)
  unopposed_founded A e =
      ⊎_elim
      (λ t. (t, ap (above o) (sym (objection-founded o w P A t) ∙ e) ∙ (above-cut o).out))
      (λ n. absurd (o.apart (sym e ∙ objection_unfounded o w P A n)))
      (cases_Bool (founded w P A))

  pub unopposed_breaks_none : Graded o P → (A : ℕ) → objection o w P A ≡ o.bottom → (r : Rule G) → Among r P → breaks A r ≡ false
  unfolding worst
  unopposed_breaks_none graded A e r i =
      false_from (breaks A r) λ t.
      true≢false (sym (greatest_in o (above o) (above-cut o) (breaks A) (λ s. s.grade) P r i t (graded r i)) ∙ (unopposed_founded A e).1)

  pub unopposed_is_model : Graded o P → (A : ℕ) → A < 2 ^ w → objection o w P A ≡ o.bottom → A ≡ support o w (consequences o w P)
  unfolding consequences
  unopposed_is_model graded A l e =
      let p = unopposed_founded A e in
      let c = consequences o w P in
      same_set w A (support o w c) l (support-below o w c) λ x m.
      same_truth (has A x) (has (support o w c) x)
      (λ t. support-has o w c x m ∙ derived-steps o w P fits graded w x (derived-grows (applicable A P) P (λ r i. (applicable-out A P r i).0) w x (founded_sub w P A p.0 x t)))
      (λ t. swallows (above o) (above-cut o) A p.1 w x (sym (support-has o w c x m) ∙ t))

  pub model_is_unopposed : (A : ℕ) → A ≡ support o w (consequences o w P) → objection o w P A ≡ o.bottom
  model_is_unopposed A e =
      bot_of o (objection o w P A) (ap (λ B. above o (objection o w P B)) (e ∙ sym least-model) ∙ model-objection (above o) (above-cut o))

module _ {G : Type 0} (o : Order G) (w : ℕ) (P : List (Rule G)) (fits : Fits w P) where
  pub unopposed_is_stable : Graded o P → (A : ℕ) → A < 2 ^ w → objection o w (reduct A P) A ≡ o.bottom → stable o w P A ≡ true
  unfolding stable reading
  unopposed_is_stable graded A l e =
      eq-eqb A (support o w (consequences o w (reduct A P))) (unopposed_is_model o w (reduct A P) (reduct-fits w A P fits) (reduct-graded o A P graded) A l e)

  pub stable_is_unopposed : (A : ℕ) → stable o w P A ≡ true → objection o w (reduct A P) A ≡ o.bottom
  unfolding stable reading
  stable_is_unopposed A t = model_is_unopposed o w (reduct A P) (reduct-fits w A P fits) A (eqb-true A (support o w (consequences o w (reduct A P))) t)

  pub free_of_conflict : Graded o P → conflict o w P ≡ o.bottom → (A : ℕ) × (A < 2 ^ w) × (stable o w P A ≡ true)
  unfolding conflict least_among
  free_of_conflict graded e =
      let a = least_miss o (above o) (above-cut o) (λ A. true) (λ A. objection o w (reduct A P) A) (2 ^ w) (ap (above o) e ∙ (above-cut o).out) in
      (a.0, a.1, unopposed_is_stable graded a.0 a.1 (bot_of o (objection o w (reduct a.0 P) a.0) a.3))

  pub stable_frees : (A : ℕ) → stable o w P A ≡ true → conflict o w P ≡ o.bottom
  unfolding conflict least_among
  stable_frees A t = bot_of o (conflict o w P) (false_from (above o (conflict o w P)) clash)
    where
      clash : above o (conflict o w P) ≡ true → ⊥
      clash u =
          true≢false
          (sym (least-out o (above o) (above-cut o) (λ B. true) (λ B. objection o w (reduct B P) B) (2 ^ w) u A (stable_is_below o w P A t) refl)
          ∙ (ap (above o) (stable_is_unopposed A t) ∙ (above-cut o).out))
