-- What chains over the rules and the atoms give: the greatest grade of a broken rule, and a fact about every atom.
use Rattle.std.proofs.Common.{◌≡◌, ℕ, ◌<◌, Bool, true, false, cond, ◌&&◌, List, [], ◌∷◌, map, length, filter, fold, Decides, MatchBool, sym, refl, ap, ◌∙◌, subst, arith, zero-add}
use mathlib.Core.Bool.{false≢true}
use Rattle.std.specs.List.{range_with_len, AllWithin, HoldsAt}
use Rattle.std.proofs.lemmas.List.FromFn.{length-range_with_len, get_or-range_with_len}
use Rattle.std.proofs.lemmas.Bool.Decides.{Decides-and}
use Rattle.scale.specs.Laws.{Scaled, greater}
use Rattle.semantics.specs.Sets.{disjoint}
use Rattle.semantics.specs.Rules.{Rule, positive, reduct, breaks, greatest_of, worst}
use Rattle.semantics.specs.Plain.{weigh, grade_of, weighted, Broken}
use Rattle.semantics.specs.declared.rule.PlainRule.{PlainRule}
use Rattle.semantics.proofs.Sets.{decides_disjoint}
use Rattle.semantics.proofs.Reducts.{decides_breaks}
use Rattle.grading.proofs.Extremes.{greater-bottom, greater_of_bottom, greater_turn}

-- the rule stands in the reduct by A, and A breaks it there
abbrev pub breaking : ℕ → PlainRule → Bool
breaking A r = disjoint r.neg A && breaks A (positive (weigh r r.rank))

pub decides_broken : (A : ℕ) (r : PlainRule) → Decides (breaking A r) (Broken A r)
unfolding positive
decides_broken A r =
    let d = Decides-and _ _ (decides_disjoint r.neg A) (decides_breaks A (positive (weigh r r.rank))) in
    (λ t. let b = d.0 t in (b.0, b.1.0, b.1.1), λ b. d.1 (b.0, (b.1, b.2)))

-- a fact about each number below n
pub all_below : (P : ℕ → Type 0) (n : ℕ) (b : Bool) → MatchBool b (AllWithin P (range_with_len 0 n) 0 (length (range_with_len 0 n))) ((k : ℕ) × (k < length (range_with_len 0 n)) × HoldsAt (λ x. P x → ⊥) (range_with_len 0 n) k) → Decides b ((x : ℕ) → x < n → P x)
all_below P n true all = (λ t x l. subst P (get_or-range_with_len 0 n x 0 l ∙ zero-add x) (all x 0 (omega arith) (omega (arith, length-range_with_len 0 n))), λ each. refl)
all_below P n false one =
    let l : one.0 < n = omega (arith, one.1, length-range_with_len 0 n) in
    (λ t. absurd (false≢true t), λ each. absurd (one.2 0 (subst P (sym (get_or-range_with_len 0 n one.0 0 l ∙ zero-add one.0)) (each one.0 l))))

module _ {G R : Type 0} (s : Scaled G R) (A : ℕ) (rows : List R) where
  abbrev pub worse : G → G → G
  worse worst own = greater s.order own worst

  abbrev Rest : List PlainRule → Type 0
  Rest rules = (g : G) → fold worse g (map (grade_of s rows) (filter (breaking A) rules)) ≡ greater s.order g (worst s.order A (reduct A (weighted s rules rows)))

  -- the greatest grade of a broken rule, in the order of the rules
  worst_folded : (rules : List PlainRule) → Rest rules
  unfolding worst weighted reduct greatest_of breaks positive
  worst_folded [] g = sym (greater_of_bottom s.order g)
  worst_folded (r ∷ rules) g = stands (disjoint r.neg A) (worst_folded rules)
    where
      own : G
      own = grade_of s rows r

      broken : List PlainRule
      broken = filter (breaking A) rules

      P : List (Rule G)
      P = reduct A (weighted s rules rows)

      breaks_it : (b : Bool) → Rest rules → fold worse g (map (grade_of s rows) (cond b (r ∷ broken) broken)) ≡ greater s.order g (cond b (greater s.order own (worst s.order A P)) (worst s.order A P))
      breaks_it true rest = rest (worse g own) ∙ greater_turn s.order own g (worst s.order A P)
      breaks_it false rest = rest g

      stands : (d : Bool) → Rest rules → fold worse g (map (grade_of s rows) (cond (d && breaks A (positive (weigh r own))) (r ∷ broken) broken)) ≡ greater s.order g (worst s.order A (cond d (positive (weigh r own) ∷ P) P))
      stands true rest = breaks_it (breaks A (positive (weigh r own))) rest
      stands false rest = rest g

  -- the same, from the bottom on
  pub worst_from_bottom : (rules : List PlainRule) (g : G) → g ≡ s.order.bottom → fold worse g (map (grade_of s rows) (filter (breaking A) rules)) ≡ worst s.order A (reduct A (weighted s rules rows))
  worst_from_bottom rules g e = worst_folded rules g ∙ ap (λ (h : G). greater s.order h (worst s.order A (reduct A (weighted s rules rows)))) e ∙ greater-bottom s.order (worst s.order A (reduct A (weighted s rules rows)))
