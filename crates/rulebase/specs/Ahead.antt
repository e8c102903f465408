-- The stable sets that a cursor has not passed.
use Rattle.std.specs.Prelude.{◌≡◌, ℕ, suc, ◌^◌, ◌≤◌, List, Some, None, Ok, Option}
use Rattle.scale.specs.Laws.{Scaled}
use Rattle.semantics.specs.Sets.{width}
use Rattle.semantics.specs.declared.rule.PlainRule.{PlainRule}
use Rattle.search.specs.Admissible.{Stable}
use Rattle.rulebase.specs.declared.cursor.Cursor.{Cursor}
use Rattle.rulebase.specs.declared.cursor.Cursor.TheVariants as cursor
use Rattle.rulebase.specs.Reference.{State, after, held, passed, moved, upcoming, fetched}
use Rattle.rulebase.specs.Tables.{standing_of}
use Rattle.rulebase.specs.Calls.{told_fetch, fetched_rows}

-- the least set that the cursor has not passed; a stale one has passed none
abbrev pub start : Cursor → ℕ
start cursor.Stale = 0
start cursor.First = 0
start (cursor.After set) = suc set
start cursor.Ended = 2 ^ width

-- A is stable, and not below n
abbrev pub Ahead : List PlainRule → ℕ → ℕ → Type 0
Ahead rules n A = Stable rules A × (n ≤ A)

-- the cursor once the next set has been fetched, or none was left
abbrev pub beyond : Option ℕ → Cursor
beyond None = cursor.Ended
beyond (Some A) = cursor.After A

-- The next stable set of the state, or none; its reading lies in the buffer, with the necessities that the reference answers;
-- and a cursor that stands beyond it has passed one stable set more, or none where none was left.
pub record Read {G R : Type 0} (s : Scaled G R) (st : State G) (entry exit : List R) (r : Option ℕ) : Type 0 where
  pub set : r ≡ upcoming s.order width st
  pub rows : exit ≡ fetched_rows s st (Ok r) entry
  pub told : told_fetch s (Ok r) exit ≡ fetched s.order width (held st.places) r
  pub moves : standing_of s (held st.places) (beyond r) ≡ after (moved r (passed st.standing))
