-- The set that the ranks object to least is one that the grades object to least.
use Rattle.std.proofs.Common.{◌≡◌, ℕ, ◌^◌, ◌<◌, ◌≤◌, true, cond, List, get_or, sym, refl, ap, ◌∙◌, subst, ⊎_elim, arith}
use Rattle.std.specs.List.{Contains}
use Rattle.std.proofs.lemmas.List.{get_or-map}
use Rattle.std.proofs.lemmas.Bool.{cases_Bool}
use Rattle.scale.specs.Laws.{Scaled}
use Rattle.semantics.specs.Sets.{width}
use Rattle.semantics.specs.Rules.{Rule, positive, reduct, breaks, founded, worst, objection, conflict}
use Rattle.semantics.specs.Plain.{weigh, grade_of, weighted, by_place, by_rank, Broken}
use Rattle.semantics.specs.declared.rule.PlainRule.{PlainRule}
use Rattle.semantics.proofs.Cuts.{le_by_cuts}
use Rattle.semantics.proofs.Bests.{greatest_in, greatest-out}
use Rattle.semantics.proofs.Plain.{graded_in, graded-out}
use Rattle.semantics.proofs.Reducts.{Fails, broken_in, broken-out}
use Rattle.semantics.proofs.Objections.{objection-founded, objection_unfounded}
use Rattle.semantics.proofs.Alike.{alike_weighted, alike_reduct, alike_founded}
use Rattle.semantics.proofs.Least.{conflict_least}
use Rattle.search.specs.Admissible.{NoSuch, Candidate, LeastObjected}
use Rattle.search.proofs.Forced.{undecided, fits_any}
use Rattle.grading.specs.Ranks.{grades, rank_among, ranks, ranks_of}
use Rattle.grading.proofs.Ranking.{weighted-same, rank-keeps, grade_among, ranks_at, same_length, same_place, same-grades}

module _ {G R : Type 0} (s : Scaled G R) where
  -- foundedness does not look at grades or ranks
  pub founded-same : (w A : ℕ) (rules : List PlainRule) (rows : List R) → founded w (reduct A (weighted s rules rows)) A ≡ founded w (reduct A (by_rank rules)) A
  founded-same w A rules rows =
      alike_founded w (reduct A (weighted s rules rows)) (reduct A (by_rank rules)) (alike_reduct A (weighted s rules rows) (by_rank rules) (alike_weighted s (λ r. r.rank) rules rows)) A

  -- so the objection is told by the ranks and the worst grade
  pub objection_by_rank : (A : ℕ) (rules : List PlainRule) (rows : List R) → objection s.order width (reduct A (weighted s rules rows)) A ≡ cond (founded width (reduct A (by_rank rules)) A) (worst s.order A (reduct A (weighted s rules rows))) s.order.top
  unfolding objection
  objection_by_rank A rules rows = ap (λ b. cond b (worst s.order A (reduct A (weighted s rules rows))) s.order.top) (founded-same width A rules rows)

-- every rule has the rank of its grade
abbrev pub Ranked : {G R : Type 0} → Scaled G R → List R → List PlainRule → Type 0
Ranked s rows rules = (q : PlainRule) → Contains rules q → q.rank ≡ rank_among s.order (grades s rows rules) (grade_of s rows q)

pub ranked_there : {G R : Type 0} (s : Scaled G R) (rows : List R) (xs ys : List PlainRule) → by_place ys ≡ by_place xs → ranks ys ≡ ranks_of s rows xs → Ranked s rows ys
ranked_there s rows xs ys e r q h =
    let i = h.0 in
    let here : get_or ys i q ≡ q = h.2 in
    ap (λ (x : PlainRule). x.rank) (sym here) ∙ sym (get_or-map (λ (x : PlainRule). x.rank) ys i q 0 h.1)
    ∙ ap (λ (ns : List ℕ). get_or ns i 0) r
    ∙ ranks_at s rows xs i q (omega (arith, h.1, same_length ys xs e)) (same_place ys xs e i q h.1 (sym here))
    ∙ ap (λ (gs : List _). rank_among s.order gs (grade_of s rows q)) (same-grades s rows xs ys (sym e))

module _ {G R : Type 0} (s : Scaled G R) (rules : List PlainRule) (rows : List R) (ranked : Ranked s rows rules) where
  abbrev P : List (Rule G)
  P = weighted s rules rows

  abbrev held_against : ℕ → G
  held_against A = objection s.order width (reduct A P) A

  -- the worst rule that A breaks is no worse than the worst that B breaks
  worst-least : (A B : ℕ) → ((q : PlainRule) → Contains rules q → Broken A q → (p : PlainRule) × Contains rules p × Broken B p × (q.rank ≤ p.rank)) → s.order.at_most (worst s.order A (reduct A P)) (worst s.order B (reduct B P)) ≡ true
  unfolding worst weighted positive
  worst-least A B least = le_by_cuts s.order _ _ λ h cut t.
      let a = greatest-out s.order h cut (breaks A) (λ r. r.grade) (reduct A P) t in
      let b = broken-out A P a.0 a.1 a.2 in
      let q = graded-out (grade_of s rows) rules b.0 b.1 in
      let g = grade_of s rows q.0 in
      let p = least q.0 q.1 (subst (Fails A) q.2 b.2) in
      let k = grade_of s rows p.0 in
      let low : rank_among s.order (grades s rows rules) g ≤ rank_among s.order (grades s rows rules) k = omega (arith, p.3, ranked q.0 q.1, ranked p.0 p.1) in
      let is : a.0.grade ≡ g = ap (λ (r : Rule G). r.grade) (b.3 ∙ ap positive q.2) in
      let up = cut.up g k (rank-keeps s.order (grades s rows rules) g k (grade_among s rows rules p.0 p.1) low) (ap h (sym is) ∙ a.3) in
      let c = broken_in B P (weigh p.0 k) (graded_in (grade_of s rows) rules p.0 p.1) p.2 in
      greatest_in s.order h cut (breaks B) (λ r. r.grade) (reduct B P) (positive (weigh p.0 k)) c.0 c.1 up

  candidate : (A : ℕ) → A < 2 ^ width → founded width (reduct A P) A ≡ true → Candidate rules undecided A
  candidate A l t = record { below = l; founds = sym (founded-same s width A rules rows) ∙ t; fits = fits_any A }

  -- the set objected to least gives the conflict
  pub least-conflict : (A : ℕ) → LeastObjected rules undecided A → held_against A ≡ conflict s.order width P
  least-conflict A a =
      let least = conflict_least s.order width P in
      let at = least.attained 0 (omega arith) refl in
      let B = at.0 in
      s.order.antisymmetric (held_against A) (conflict s.order width P)
      (subst (λ (g : G). s.order.at_most (held_against A) g ≡ true) at.3
      (⊎_elim
      (λ (t : founded width (reduct B P) B ≡ true).
      subst (λ (g : G). s.order.at_most g (held_against B) ≡ true) (sym (objection-founded s.order width (reduct A P) A (founded-same s width A rules rows ∙ a.candidate.founds)))
      (subst (λ (g : G). s.order.at_most (worst s.order A (reduct A P)) g ≡ true) (sym (objection-founded s.order width (reduct B P) B t)) (worst-least A B (a.least B (candidate B at.1 t)))))
      (λ t. subst (λ (g : G). s.order.at_most (held_against A) g ≡ true) (sym (objection_unfounded s.order width (reduct B P) B t)) (s.order.greatest (held_against A)))
      (cases_Bool (founded width (reduct B P) B))))
      (least.below A a.candidate.below refl)

  -- where no set is founded the conflict is the top
  pub no_conflict : NoSuch (Candidate rules undecided) → s.order.top ≡ conflict s.order width P
  no_conflict none =
      let at = (conflict_least s.order width P).attained 0 (omega arith) refl in
      ⊎_elim (λ t. absurd (none at.0 (candidate at.0 at.1 t))) (λ t. sym (objection_unfounded s.order width (reduct at.0 P) at.0 t) ∙ at.3) (cases_Bool (founded width (reduct at.0 P) at.0))

-- what the ranks find, where `after` are the rules of `before` with the ranks of their grades
module _ {G R : Type 0} (s : Scaled G R) (rows : List R) (before after : List PlainRule) (kept : by_place after ≡ by_place before) (ranked : ranks after ≡ ranks_of s rows before) where
  abbrev Sought : G → Type 0
  Sought g = g ≡ conflict s.order width (weighted s before rows)

  sought : (g : G) → g ≡ conflict s.order width (weighted s after rows) → Sought g
  sought g e = e ∙ ap (λ (P : List (Rule G)). conflict s.order width P) (weighted-same s rows after before kept)

  pub conflict_found : (A : ℕ) → LeastObjected after undecided A → Sought (objection s.order width (reduct A (weighted s after rows)) A)
  conflict_found A a = sought _ (least-conflict s after rows (ranked_there s rows before after kept ranked) A a)

  pub conflict_unfound : NoSuch (Candidate after undecided) → Sought s.order.top
  conflict_unfound none = sought _ (no_conflict s after rows (ranked_there s rows before after kept ranked) none)
