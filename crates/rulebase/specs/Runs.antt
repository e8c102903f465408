-- Runs of calls.
use Rattle.std.specs.Prelude.{◌≡◌, ℕ, min, List, Ok, Err, Result}
use Rattle.scale.specs.Laws.{Scaled}
use Rattle.scale.specs.declared.refusal.Refusal.{Refusal}
use Rattle.scale.specs.Refusals.{number_of}
use Rattle.semantics.specs.Sets.{width}
use Rattle.rulebase.specs.declared.base.RuleBase.{RuleBase}
use Rattle.rulebase.specs.declared.call.Answer.{Answer}
use Rattle.rulebase.specs.declared.call.Answer.TheVariants as said
use Rattle.rulebase.specs.declared.call.Call.{Call}
use Rattle.rulebase.specs.declared.call.Call.TheVariants.{Enter, Strike, Cut, Mend, Rewind, Fetch, Conflict}
use Rattle.rulebase.specs.declared.rule.Rule.{Rule as Record}
use Rattle.rulebase.specs.Reference.{State, Reply, refused, done, emptied, mended, grade, reply, next}
use Rattle.rulebase.specs.Calls.{rules_in, rows_in, state_in, told_fetch, fetched_rows, records_after, rows_after}
use Rattle.rulebase.specs.Tables.{KeepsRest, Exact}

-- what an answer or a refusal says, the rows of a reading lying in the front of a buffer
abbrev pub told : {G R : Type 0} → Scaled G R → Result (Answer G) Refusal → List R → Reply G
told s (Err e) rows = refused (number_of e)
told s (Ok said.Done) rows = done
told s (Ok (said.Emptied n)) rows = emptied n
told s (Ok (said.Mended m)) rows = mended m.grade m.emptied
told s (Ok (said.Fetched r)) rows = told_fetch s (Ok r) rows
told s (Ok (said.Conflict g)) rows = grade g

-- the buffer after a call: the reading of the set answered over its front, all else kept
abbrev pub kept_rows : {G R : Type 0} → Scaled G R → State G → Result (Answer G) Refusal → List R → List R
kept_rows s st (Err e) rows = rows
kept_rows s st (Ok said.Done) rows = rows
kept_rows s st (Ok (said.Emptied n)) rows = rows
kept_rows s st (Ok (said.Mended m)) rows = rows
kept_rows s st (Ok (said.Fetched r)) rows = fetched_rows s st (Ok r) rows
kept_rows s st (Ok (said.Conflict g)) rows = rows

-- the call, its buffer no longer than n rows
abbrev pub within : {G : Type 0} → ℕ → Call G → Call G
within n (Enter place head pos neg g) = Enter place head pos neg g
within n (Strike place) = Strike place
within n (Cut g) = Cut g
within n Mend = Mend
within n Rewind = Rewind
within n (Fetch m) = Fetch (min m n)
within n Conflict = Conflict

-- The tables keep all but their places; and exact tables stay exact.
pub record Stays {G R : Type 0} (s : Scaled G R) (rules : List Record) (rows : List R) (rules' : List Record) (rows' : List R) : Type 0 where
  pub rest : KeepsRest rules rows rules' rows'
  pub exact : Exact s rules rows → Exact s rules' rows'

-- The tables are still the caller's two, and stay but for their places.
pub record KeepsTables {G R : Type 0} (s : Scaled G R) (b b' : RuleBase G R) : Type 0 where
  pub stays : Stays s (rules_in b) (rows_in b) (rules_in b') (rows_in b')
  pub rules_name : b'.rules.ghost_name ≡ b.rules.ghost_name
  pub rows_name : b'.grades.rows.ghost_name ≡ b.grades.rows.ghost_name

-- A call is performed as the reference performs it: r is the reference's reply, b' stands for its next state and has the records and
-- the rows that the call leaves, and the tables are still the caller's two.
pub record Performs {G R : Type 0} (s : Scaled G R) (b : RuleBase G R) (c : Call G) (r : Reply G) (b' : RuleBase G R) : Type 0 where
  pub answer : r ≡ reply s.order width (state_in s b) c
  pub state : state_in s b' ≡ next s.order width (state_in s b) c
  pub rules : rules_in b' ≡ records_after s (state_in s b) c (rules_in b) (rows_in b)
  pub rows : rows_in b' ≡ rows_after s (state_in s b) c (rules_in b) (rows_in b)
  pub tables : KeepsTables s b b'
