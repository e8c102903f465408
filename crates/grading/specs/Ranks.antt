-- Ranks in place of grades.
use Rattle.std.specs.Prelude.{ℕ, not, List, map, length, filter}
use Rattle.scale.specs.Laws.{Order, Scaled}
use Rattle.semantics.specs.Plain.{grade_of}
use Rattle.semantics.specs.declared.rule.PlainRule.{PlainRule}

-- the grades of the rules
abbrev pub grades : {G R : Type 0} → Scaled G R → List R → List PlainRule → List G
grades s rows rules = map (grade_of s rows) rules

-- the rank of a grade among others: how many of them are below it
unfoldable pub rank_among : {G : Type 0} → Order G → List G → G → ℕ
rank_among o gs g = length (filter (λ x. not (o.at_most g x)) gs)

-- the ranks that the rules have
abbrev pub ranks : List PlainRule → List ℕ
ranks rules = map (λ r. r.rank) rules

-- the ranks of their grades
unfoldable pub ranks_of : {G R : Type 0} → Scaled G R → List R → List PlainRule → List ℕ
ranks_of s rows rules = map (rank_among s.order (grades s rows rules)) (grades s rows rules)
