-- What two tables and a cursor hold.
use Rattle.std.specs.Prelude.{◌≡◌, ℕ, suc, ◌^◌, min, Bool, true, false, cond, ◌&&◌, List, map, length, take, drop, Some, None, Option, nat_lt}
use Rattle.std.specs.List.{zip}
use Rattle.scale.specs.Laws.{Scaled, above}
use Rattle.semantics.specs.Sets.{width}
use Rattle.semantics.specs.Rules.{Rule, stable_below}
use Rattle.rulebase.specs.declared.rule.Rule.{Rule as Record}
use Rattle.rulebase.specs.declared.cursor.Cursor.{Cursor}
use Rattle.rulebase.specs.declared.cursor.Cursor.TheVariants as cursor
use Rattle.rulebase.specs.Reference.{State, Standing, stale, after, held}

-- at most so many places
abbrev pub most_places : ℕ
most_places = 1024

-- how many places two tables have
abbrev pub count_of : {A B : Type 0} → List A → List B → ℕ
count_of rules rows = min (min (length rules) (length rows)) most_places

-- The tables keep their lengths and what lies beyond the last place.
pub record KeepsRest {A B : Type 0} (rules : List A) (rows : List B) (rules' : List A) (rows' : List B) : Type 0 where
  pub rules_length : length rules' ≡ length rules
  pub rows_length : length rows' ≡ length rows
  pub rules_rest : drop (count_of rules rows) rules' ≡ drop (count_of rules rows) rules
  pub rows_rest : drop (count_of rules rows) rows' ≡ drop (count_of rules rows) rows

-- the record of an empty place
abbrev pub empty_record : Record
empty_record = record { head = 0; pos = 0; neg = 0; marked = false }

-- and its row
abbrev pub empty_row : {G R : Type 0} → Scaled G R → R
empty_row s = s.row_of s.order.bottom

module _ {G R : Type 0} (s : Scaled G R) where
  -- a place holds a rule where its record is marked, its head is an atom and its grade is above the bottom
  abbrev pub holds : Record → R → Bool
  holds r row = r.marked && (nat_lt r.head width && above s.order (s.read_of row))

  -- what a place holds
  abbrev pub place_of : Record → R → Option (Rule G)
  place_of r row = cond (holds r row) (Some (record { head = r.head; pos = r.pos; neg = r.neg; grade = s.read_of row })) None

  -- what each place of both tables holds
  unfoldable pub pairs_of : List Record → List R → List (Option (Rule G))
  pairs_of rules rows = map (λ p. place_of p.0 p.1) (zip rules rows)

  -- what the places hold: there are no more than `most_places`
  unfoldable pub places_of : List Record → List R → List (Option (Rule G))
  places_of rules rows = take most_places (pairs_of rules rows)

  -- where the list of stable sets stands: after as many of them as the cursor has passed
  abbrev pub standing_of : List (Rule G) → Cursor → Standing
  standing_of P cursor.Stale = stale
  standing_of P cursor.First = after 0
  standing_of P (cursor.After set) = after (length (stable_below s.order width P (suc set)))
  standing_of P cursor.Ended = after (length (stable_below s.order width P (2 ^ width)))

  -- the state that the tables and the cursor stand for
  unfoldable pub state_of : List Record → List R → Cursor → State G
  state_of rules rows c = record { places = places_of rules rows; standing = standing_of (held (places_of rules rows)) c }

-- the record that a place has, and its row
abbrev pub record_of : {G : Type 0} → Option (Rule G) → Record
record_of None = empty_record
record_of (Some r) = record { head = r.head; pos = r.pos; neg = r.neg; marked = true }

abbrev pub row_for : {G R : Type 0} → Scaled G R → Option (Rule G) → R
row_for s None = empty_row s
row_for s (Some r) = s.row_of r.grade

-- The tables are exactly those of the places that they stand for: the mark alone tells an empty place.
pub record Exact {G R : Type 0} (s : Scaled G R) (rules : List Record) (rows : List R) : Type 0 where
  pub records : take (count_of rules rows) rules ≡ map record_of (places_of s rules rows)
  pub grades : take (count_of rules rows) rows ≡ map (row_for s) (places_of s rules rows)
