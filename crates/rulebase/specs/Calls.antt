-- What the calls leave in the tables.
use Rattle.std.specs.Prelude.{◌≡◌, ℕ, zero, suc, ◌^◌, ◌<◌, Bool, true, cond, ◌&&◌, List, [], ◌∷◌, map, take, Some, None, Ok, Err, Option, Result, ◌==◌, slice_set}
use Rattle.scale.specs.Laws.{Order, Scaled}
use Rattle.scale.specs.Refusals.{number_of}
use Rattle.scale.specs.declared.refusal.Refusal.{Refusal}
use Rattle.semantics.specs.Sets.{width}
use Rattle.semantics.specs.Rules.{Rule, reading, stable, conflict}
use Rattle.semantics.specs.Plain.{rows_of, over}
use Rattle.rulebase.specs.declared.base.RuleBase.{RuleBase}
use Rattle.rulebase.specs.declared.call.Call.{Call}
use Rattle.rulebase.specs.declared.call.Call.TheVariants.{Enter, Strike, Cut, Mend, Rewind, Fetch, Conflict}
use Rattle.rulebase.specs.declared.rule.Rule.{Rule as Record}
use Rattle.rulebase.specs.Reference.{State, Reply, done, refused, model, no_more, held, refusal}
use Rattle.rulebase.specs.Tables.{count_of, holds, state_of, empty_record, empty_row}

-- the records and the rows of a rule base, and the state that it stands for
abbrev pub rules_in : {G R : Type 0} → RuleBase G R → List Record
rules_in b = b.rules.now

abbrev pub rows_in : {G R : Type 0} → RuleBase G R → List R
rows_in b = b.grades.rows.now

abbrev pub state_in : {G R : Type 0} → Scaled G R → RuleBase G R → State G
state_in s b = state_of s (rules_in b) (rows_in b) b.cursor

-- the record of a rule that is held
abbrev pub marked_record : ℕ → ℕ → ℕ → Record
marked_record head pos neg = record { head = head; pos = pos; neg = neg; marked = true }

-- what a call that is done or refused says
abbrev pub said : {G : Type 0} → Result (Unit {0}) Refusal → Reply G
said (Ok u) = done
said (Err e) = refused (number_of e)

-- f of each of the first n entries of xs and the entry of ys beside it; all else of xs stays
unfoldable pub beside : {A B : Type 0} → (A → B → A) → ℕ → List A → List B → List A
beside f zero xs ys = xs
beside f (suc n) [] ys = []
beside f (suc n) (x ∷ xs) [] = x ∷ xs
beside f (suc n) (x ∷ xs) (y ∷ ys) = f x y ∷ beside f n xs ys

module _ {G R : Type 0} (s : Scaled G R) where
  -- a cut at g empties this place
  abbrev pub is_cut : G → Record → R → Bool
  is_cut g r row = holds s r row && s.order.at_most (s.read_of row) g

  -- the records and the rows of n places after a cut at g; what lies beyond stays
  abbrev pub cut_records : G → ℕ → List Record → List R → List Record
  cut_records g n rules rows = beside (λ r x. cond (is_cut g r x) empty_record r) n rules rows

  abbrev pub cut_rows : G → ℕ → List Record → List R → List R
  cut_rows g n rules rows = beside (λ x r. cond (is_cut g r x) (empty_row s) x) n rows rules

  -- the records and the rows after a call in the state st: a refused one leaves them, a mend cuts at the conflict grade
  abbrev pub records_after : State G → Call G → List Record → List R → List Record
  records_after st (Enter place head pos neg g) rules rows = cond (refusal s.order width st (Enter place head pos neg g) == 0) (slice_set rules place (marked_record head pos neg)) rules
  records_after st (Strike place) rules rows = cond (refusal s.order width st (Strike place) == 0) (slice_set rules place empty_record) rules
  records_after st (Cut g) rules rows = cut_records g (count_of rules rows) rules rows
  records_after st Mend rules rows = cut_records (conflict s.order width (held st.places)) (count_of rules rows) rules rows
  records_after st Rewind rules rows = rules
  records_after st (Fetch n) rules rows = rules
  records_after st Conflict rules rows = rules

  abbrev pub rows_after : State G → Call G → List Record → List R → List R
  rows_after st (Enter place head pos neg g) rules rows = cond (refusal s.order width st (Enter place head pos neg g) == 0) (slice_set rows place (s.row_of g)) rows
  rows_after st (Strike place) rules rows = cond (refusal s.order width st (Strike place) == 0) (slice_set rows place (empty_row s)) rows
  rows_after st (Cut g) rules rows = cut_rows g (count_of rules rows) rules rows
  rows_after st Mend rules rows = cut_rows (conflict s.order width (held st.places)) (count_of rules rows) rules rows
  rows_after st Rewind rules rows = rows
  rows_after st (Fetch n) rules rows = rows
  rows_after st Conflict rules rows = rows

  -- what a fetch says: its rows lie in the front of the buffer
  abbrev pub told_fetch : Result (Option ℕ) Refusal → List R → Reply G
  told_fetch (Err e) buffer = refused (number_of e)
  told_fetch (Ok None) buffer = no_more
  told_fetch (Ok (Some A)) buffer = model A (map s.read_of (take width buffer))

  -- the buffer after a fetch: the reading of the set answered over its front, all else kept
  abbrev pub fetched_rows : State G → Result (Option ℕ) Refusal → List R → List R
  fetched_rows st (Err e) buffer = buffer
  fetched_rows st (Ok None) buffer = buffer
  fetched_rows st (Ok (Some A)) buffer = over (rows_of s width (reading s.order width (held st.places) A)) buffer

-- some set of atoms is stable
abbrev pub SomeStable : {G : Type 0} → Order G → List (Rule G) → Type 0
SomeStable o P = (A : ℕ) × (A < 2 ^ width) × (stable o width P A ≡ true)
