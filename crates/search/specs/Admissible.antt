-- What the search looks for.
use Rattle.std.specs.Prelude.{◌≡◌, ℕ, ◌^◌, ◌<◌, ◌≤◌, true, false, List, Option, MatchOption}
use Rattle.std.specs.List.{Contains}
use Rattle.semantics.specs.Sets.{width, Sub, Apart}
use Rattle.semantics.specs.Rules.{Rule, Among, reduct, breaks, founded, stable}
use Rattle.semantics.specs.Plain.{by_rank, held, truth, Broken}
use Rattle.semantics.specs.declared.rule.PlainRule.{PlainRule}
use Rattle.search.specs.declared.bounds.Bounds.{Bounds}
use Rattle.search.specs.declared.rules_at.RulesAt.{RulesAt}

-- A rule is strong where its rank is at least the threshold t. A set is admissible where it is founded in the reduct by it,
-- and breaks no strong rule of that reduct. At the threshold 0 every rule is strong, and the admissible sets are the stable ones.
pub record Admissible (w t : ℕ) (P : List (Rule ℕ)) (A : ℕ) : Type 0 where
  pub below : A < 2 ^ w
  pub founds : founded w (reduct A P) A ≡ true
  pub keeps : (r : Rule ℕ) → Among r (reduct A P) → t ≤ r.grade → breaks A r ≡ false

-- the set has all that is decided present, and nothing that is decided absent
abbrev pub Fits : Bounds → ℕ → Type 0
Fits b A = Sub b.present A × Apart A b.absent

-- a is the least number with the property
pub record Least (P : ℕ → Type 0) (a : ℕ) : Type 0 where
  pub passes : P a
  pub least : (b : ℕ) → P b → a ≤ b

-- no number has the property
abbrev pub NoSuch : (ℕ → Type 0) → Type 0
NoSuch P = (b : ℕ) → P b → ⊥

-- the answer is the least number with the property, or that there is none
abbrev pub Finds : (ℕ → Type 0) → Option ℕ → Type 0
Finds P answer = MatchOption answer (NoSuch P) (Least P)

-- the admissible sets that fit
abbrev pub Fitting : ℕ → List PlainRule → Bounds → ℕ → Type 0
Fitting t rules b A = Admissible width t (by_rank rules) A × Fits b A

-- the same for rules with their threshold
abbrev pub FittingAt : RulesAt → Bounds → ℕ → Type 0
FittingAt r = Fitting r.threshold r.rules.now

-- the set is stable, by rules that each hold or do not (that grades above the bottom make no difference is a theorem of `semantics`)
abbrev pub Stable : List PlainRule → ℕ → Type 0
Stable rules A = stable truth width (held rules) A ≡ true

-- the set is founded in the reduct by it, and fits
pub record Candidate (rules : List PlainRule) (b : Bounds) (A : ℕ) : Type 0 where
  pub below : A < 2 ^ width
  pub founds : founded width (reduct A (by_rank rules)) A ≡ true
  pub fits : Fits b A

-- No candidate is objected to less than A: for each rule that A breaks, every candidate breaks one of no lower rank.
pub record LeastObjected (rules : List PlainRule) (b : Bounds) (A : ℕ) : Type 0 where
  pub candidate : Candidate rules b A
  pub least : (B : ℕ) → Candidate rules b B → (q : PlainRule) → Contains rules q → Broken A q →
      (p : PlainRule) × Contains rules p × Broken B p × (q.rank ≤ p.rank)
