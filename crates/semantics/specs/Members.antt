-- The atoms of a set as a list, and one after the other.
use Rattle.std.specs.Prelude.{◌≡◌, ℕ, not, ◌&&◌, ◌==◌, List, filter, Option, MatchOption}
use Rattle.std.specs.List.{range_with_len}
use Rattle.semantics.specs.Sets.{has, Lowest}
use Rattle.semantics.specs.declared.atom.Atom.{Atom}

-- the atoms below w that A has, rising
unfoldable pub members : ℕ → ℕ → List ℕ
members w A = filter (has A) (range_with_len 0 w)

-- the lowest atom of A, where it has any, and what is left of A without it
abbrev pub TakesLowest : ℕ → Option Atom → ℕ → Type 0
TakesLowest A taken B = MatchOption taken ((A ≡ 0) × (B ≡ 0)) (λ atom. Lowest atom.number A × ((y : ℕ) → has B y ≡ (has A y && not (y == atom.number))))
