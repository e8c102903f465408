-- The stable sets of some rules, one after another.
use Rattle.std.specs.Prelude.{◌≡◌, ℕ, ◌-◌, ◌^◌, Some, None, Option, MatchOption}
use Rattle.semantics.specs.Sets.{width}
use Rattle.search.specs.Admissible.{Finds}
use Rattle.search.specs.Listing.{Later}
use Rattle.search.specs.declared.stable_sets.StableSets.{StableSets}

-- at most so many sets are at least the one that comes next
abbrev pub left : Option ℕ → ℕ
left None = 0
left (Some set) = 2 ^ width - set

-- what is given is the set that came next; after it comes the least stable set above it, where there is one, and after none none
abbrev pub Lists : StableSets → Option ℕ → StableSets → Type 0
Lists sets given rest =
    (given ≡ sets.next) × (rest.rules.now ≡ sets.rules.now)
    × MatchOption given (rest.next ≡ None) (λ set. Finds (Later sets.rules.now set) rest.next)
