-- The rules that a set breaks, by rank.
use Rattle.std.specs.Prelude.{◌≡◌, ℕ, ◌≤◌, List}
use Rattle.std.specs.List.{All, Contains}
use Rattle.semantics.specs.declared.rule.PlainRule.{PlainRule}
use Rattle.semantics.specs.Plain.{Broken}

-- the set breaks none of the rules
abbrev pub Unbroken : List PlainRule → ℕ → Type 0
Unbroken rules A = All (λ q. ¬ (Broken A q)) rules

-- n is the greatest rank of a rule that the set breaks
pub record Worst (rules : List PlainRule) (A n : ℕ) : Type 0 where
  pub rule : PlainRule
  pub stands : Contains rules rule
  pub broken : Broken A rule
  pub ranked : rule.rank ≡ n
  pub most : All (λ q. Broken A q → q.rank ≤ n) rules
