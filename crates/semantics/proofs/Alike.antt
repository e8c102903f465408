-- Rules that are alike but for their grades have the same founded sets, and the same stable sets where no grade is the bottom.
use Rattle.std.proofs.Common.{◌≡◌, ℕ, zero, suc, ◌^◌, ◌<◌, Bool, true, false, cond, not, ◌&&◌, List, [], ◌∷◌, map, sym, refl, ap, ◌∙◌, subst, inl, inr}
use Rattle.scale.specs.Laws.{Order, Scaled, above}
use Rattle.semantics.specs.Sets.{has, within, disjoint, adding}
use Rattle.semantics.specs.Rules.{Rule, Among, positive, reduct, applicable, breaks, heads, derived, founded, stable}
use Rattle.semantics.specs.Plain.{grade_of, weigh, weighted, truth}
use Rattle.semantics.specs.Statements.{Fits, Graded, as_true}
use Rattle.semantics.specs.declared.rule.PlainRule.{PlainRule}
use Rattle.semantics.proofs.Sets.{same_truth}
use Rattle.semantics.proofs.Stable.{stable_from, stable-out}

-- two rules differ at most in their grades
pub record Twin {G H : Type 0} (r : Rule G) (s : Rule H) : Type 0 where
  pub head : r.head ≡ s.head
  pub pos : r.pos ≡ s.pos
  pub neg : r.neg ≡ s.neg

-- the rules at each place differ at most in their grades
abbrev pub Alike : {G H : Type 0} → List (Rule G) → List (Rule H) → Type 0
Alike [] [] = Unit {0}
Alike [] (s ∷ Q) = ⊥
Alike (r ∷ P) [] = ⊥
Alike (r ∷ P) (s ∷ Q) = Twin r s × Alike P Q

pub alike_sym : {G H : Type 0} (P : List (Rule G)) (Q : List (Rule H)) → Alike P Q → Alike Q P
alike_sym [] [] a = tt
alike_sym [] (s ∷ Q) a = absurd a
alike_sym (r ∷ P) [] a = absurd a
alike_sym (r ∷ P) (s ∷ Q) a = (record { head = sym a.0.head; pos = sym a.0.pos; neg = sym a.0.neg }, alike_sym P Q a.1)

-- the grades of plain rules do not matter
pub alike_weigh : {G H : Type 0} (f : PlainRule → G) (g : PlainRule → H) (rs : List PlainRule) → Alike (map (λ r. weigh r (f r)) rs) (map (λ r. weigh r (g r)) rs)
alike_weigh f g [] = tt
alike_weigh f g (r ∷ rs) = (record { head = refl; pos = refl; neg = refl }, alike_weigh f g rs)

pub alike_weighted : {G R H : Type 0} (s : Scaled G R) (g : PlainRule → H) (rs : List PlainRule) (rows : List R) → Alike (weighted s rs rows) (map (λ r. weigh r (g r)) rs)
unfolding weighted
alike_weighted s g rs rows = alike_weigh (grade_of s rows) g rs

-- a rule of one has its twin in the other
pub twin_of : {G H : Type 0} (P : List (Rule G)) (Q : List (Rule H)) → Alike P Q → (r : Rule G) → Among r P → (s : Rule H) × Among s Q × Twin r s
twin_of [] [] a r i = absurd i
twin_of [] (s ∷ Q) a r i = absurd a
twin_of (p ∷ P) [] a r i = absurd a
twin_of {H = H} (p ∷ P) (s ∷ Q) a r (inl e) = (s, inl refl, subst (λ q. Twin {H = H} q s) (sym e) a.0)
twin_of (p ∷ P) (s ∷ Q) a r (inr i) = let t = twin_of P Q a.1 r i in (t.0, inr t.1, t.2)

pub alike_fits : {G H : Type 0} (w : ℕ) (P : List (Rule G)) (Q : List (Rule H)) → Alike P Q → Fits w P → Fits w Q
alike_fits w P Q a fits s i =
    let t = twin_of Q P (alike_sym P Q a) s i in
    let f = fits t.0 t.1 in
    (subst (λ (x : ℕ). x < w) (sym t.2.head) f.0, subst (λ (x : ℕ). x < 2 ^ w) (sym t.2.pos) f.1)

pub twin_breaks : {G H : Type 0} (A : ℕ) (r : Rule G) (s : Rule H) → Twin r s → breaks A r ≡ breaks A s
unfolding breaks
twin_breaks A r s t = ap (λ n. within n A && not (has A r.head)) t.pos ∙ ap (λ x. within s.pos A && not (has A x)) t.head

-- where no rule of the one is broken, none of the other is
pub alike_unbroken : {G H : Type 0} (A : ℕ) (P : List (Rule G)) (Q : List (Rule H)) → Alike P Q → ((r : Rule G) → Among r P → breaks A r ≡ false) → (s : Rule H) → Among s Q → breaks A s ≡ false
alike_unbroken A P Q a f s i =
    let t = twin_of Q P (alike_sym P Q a) s i in
    twin_breaks A s t.0 t.2 ∙ f t.0 t.1

pub alike_heads : {G H : Type 0} (P : List (Rule G)) (Q : List (Rule H)) → Alike P Q → heads P ≡ heads Q
unfolding heads
alike_heads [] [] a = refl
alike_heads [] (s ∷ Q) a = absurd a
alike_heads (r ∷ P) [] a = absurd a
alike_heads (r ∷ P) (s ∷ Q) a = ap (λ A. adding A r.head) (alike_heads P Q a.1) ∙ ap (adding (heads Q)) a.0.head

pub alike_reduct : {G H : Type 0} (A : ℕ) (P : List (Rule G)) (Q : List (Rule H)) → Alike P Q → Alike (reduct A P) (reduct A Q)
unfolding reduct positive
alike_reduct A [] [] a = tt
alike_reduct A [] (s ∷ Q) a = absurd a
alike_reduct A (r ∷ P) [] a = absurd a
alike_reduct A (r ∷ P) (s ∷ Q) a =
    subst (λ (n : ℕ). Alike (reduct A (r ∷ P)) (cond (disjoint n A) (positive s ∷ reduct A Q) (reduct A Q))) a.0.neg
    (go (disjoint r.neg A) (alike_reduct A P Q a.1))
  where
    go : (b : Bool) → Alike (reduct A P) (reduct A Q) → Alike (cond b (positive r ∷ reduct A P) (reduct A P)) (cond b (positive s ∷ reduct A Q) (reduct A Q))
    go true ih = (record { head = a.0.head; pos = a.0.pos; neg = refl }, ih)
    go false ih = ih

pub alike_applicable : {G H : Type 0} (A : ℕ) (P : List (Rule G)) (Q : List (Rule H)) → Alike P Q → Alike (applicable A P) (applicable A Q)
unfolding applicable
alike_applicable A [] [] a = tt
alike_applicable A [] (s ∷ Q) a = absurd a
alike_applicable A (r ∷ P) [] a = absurd a
alike_applicable A (r ∷ P) (s ∷ Q) a =
    subst (λ (n : ℕ). Alike (applicable A (r ∷ P)) (cond (within n A) (s ∷ applicable A Q) (applicable A Q))) a.0.pos
    (go (within r.pos A) (alike_applicable A P Q a.1))
  where
    go : (b : Bool) → Alike (applicable A P) (applicable A Q) → Alike (cond b (r ∷ applicable A P) (applicable A P)) (cond b (s ∷ applicable A Q) (applicable A Q))
    go true ih = (a.0, ih)
    go false ih = ih

module _ {G H : Type 0} (P : List (Rule G)) (Q : List (Rule H)) (a : Alike P Q) where
  pub alike_derived : (n : ℕ) → derived P n ≡ derived Q n
  unfolding derived
  alike_derived zero = refl
  alike_derived (suc n) =
      ap (λ D. heads (applicable D P)) (alike_derived n) ∙ alike_heads (applicable (derived Q n) P) (applicable (derived Q n) Q) (alike_applicable (derived Q n) P Q a)

module _ {G H : Type 0} (w : ℕ) (P : List (Rule G)) (Q : List (Rule H)) (a : Alike P Q) (A : ℕ) where
  pub alike_founded : founded w P A ≡ founded w Q A
  unfolding founded
  alike_founded = ap (within A) (alike_derived (applicable A P) (applicable A Q) (alike_applicable A P Q a) w)

-- the stable sets do not hang on the scale, nor on the grades above the bottom
pub stable_there : {G H : Type 0} (o : Order G) (q : Order H) (w : ℕ) (P : List (Rule G)) (Q : List (Rule H)) → Alike P Q → Fits w P → Graded o P → Graded q Q → (A : ℕ) → stable o w P A ≡ true → stable q w Q A ≡ true
stable_there o q w P Q a fits graded graded' A t =
    let s = stable-out o w P fits graded A t in
    let b = alike_reduct A P Q a in
    stable_from q w Q (alike_fits w P Q a fits) graded' A s.0 (sym (alike_founded w (reduct A P) (reduct A Q) b A) ∙ s.1) (alike_unbroken A (reduct A P) (reduct A Q) b s.2)

pub alike_stable : {G H : Type 0} (o : Order G) (q : Order H) (w : ℕ) (P : List (Rule G)) (Q : List (Rule H)) → Alike P Q → Fits w P → Graded o P → Graded q Q → (A : ℕ) → stable o w P A ≡ stable q w Q A
alike_stable o q w P Q a fits graded graded' A =
    same_truth (stable o w P A) (stable q w Q A) (stable_there o q w P Q a fits graded graded' A)
    (stable_there q o w Q P (alike_sym P Q a) (alike_fits w P Q a fits) graded' graded A)

-- the rules held true
pub alike_true : {G : Type 0} (P : List (Rule G)) → Alike P (map as_true P)
alike_true [] = tt
alike_true (r ∷ P) = (record { head = refl; pos = refl; neg = refl }, alike_true P)

pub true-graded : {G : Type 0} (P : List (Rule G)) → Graded truth (map as_true P)
unfolding above
true-graded [] s i = absurd i
true-graded (r ∷ P) s (inl e) = ap (λ (q : Rule Bool). above truth q.grade) e
true-graded (r ∷ P) s (inr i) = true-graded P s i

pub stable_on_truth : {G : Type 0} (o : Order G) (w : ℕ) (P : List (Rule G)) → Fits w P → Graded o P → (A : ℕ) → stable o w P A ≡ stable truth w (map as_true P) A
stable_on_truth o w P fits graded A = alike_stable o truth w P (map as_true P) (alike_true P) fits graded (true-graded P) A
