-- The stable sets above a set, by the greatest atom in which they differ from it.
use Rattle.std.specs.Prelude.{◌≡◌, ℕ, ◌<◌, List}
use Rattle.semantics.specs.Sets.{has, In}
use Rattle.semantics.specs.declared.rule.PlainRule.{PlainRule}
use Rattle.search.specs.Admissible.{Stable}

-- A is stable, and greater than the set
abbrev pub Later : List PlainRule → ℕ → ℕ → Type 0
Later rules set A = Stable rules A × (set < A)

-- A is stable, has the atom j, and agrees with the set above j
pub record Branch (rules : List PlainRule) (set j A : ℕ) : Type 0 where
  pub stands : Stable rules A
  pub turns : In j A
  pub agrees : (x : ℕ) → j < x → has set x ≡ has A x
