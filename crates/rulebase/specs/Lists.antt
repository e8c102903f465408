-- Lists of calls, each with its own rows of one buffer.
use Rattle.std.specs.Prelude.{◌≡◌, ℕ, ◌*◌, ◌/◌, min, List, [], ◌∷◌, ◌++◌, map, length, take, drop, Result}
use Rattle.scale.specs.Laws.{Scaled}
use Rattle.scale.specs.declared.refusal.Refusal.{Refusal}
use Rattle.semantics.specs.Sets.{width}
use Rattle.rulebase.specs.declared.base.RuleBase.{RuleBase}
use Rattle.rulebase.specs.declared.rule.Rule.{Rule as Record}
use Rattle.rulebase.specs.declared.call.Answer.{Answer}
use Rattle.rulebase.specs.declared.call.Call.{Call}
use Rattle.rulebase.specs.Reference.{State, Reply, next, replies, final, opened}
use Rattle.rulebase.specs.Tables.{count_of, KeepsRest, Exact}
use Rattle.rulebase.specs.Calls.{rules_in, rows_in, state_in, records_after, rows_after}
use Rattle.rulebase.specs.Runs.{told, kept_rows, within, KeepsTables}

-- how many calls are performed: as many as there are answers for, and rows
abbrev pub performed_of : {A B C : Type 0} → List A → List B → List C → ℕ
performed_of calls answers rows = min (min (length calls) (length answers)) (length rows / width)

-- the first n calls, the buffer of each no longer than its own rows
abbrev pub first_calls : {G : Type 0} → ℕ → List (Call G) → List (Call G)
first_calls n calls = map (within width) (take n calls)

module _ {G R : Type 0} (s : Scaled G R) where
  -- what the answers say
  abbrev pub told_all : List (Result (Answer G) Refusal) → List R → List (Reply G)
  told_all [] rows = []
  told_all (a ∷ answers) rows = told s a rows ∷ told_all answers (drop width rows)

  -- the rows of the calls after them: those of a reading hold it, all others are kept
  abbrev pub kept_all : State G → List (Call G) → List (Result (Answer G) Refusal) → List R → List R
  kept_all st [] answers rows = []
  kept_all st (c ∷ calls) [] rows = []
  kept_all st (c ∷ calls) (a ∷ answers) rows = kept_rows s st a (take width rows) ++ kept_all (next s.order width st c) calls answers (drop width rows)

  -- the records and the rows after the calls
  abbrev pub final_records : State G → List (Call G) → List Record → List R → List Record
  final_records st [] rules rows = rules
  final_records st (c ∷ calls) rules rows = final_records (next s.order width st c) calls (records_after s st c rules rows) (rows_after s st c rules rows)

  abbrev pub final_rows : State G → List (Call G) → List Record → List R → List R
  final_rows st [] rules rows = rows
  final_rows st (c ∷ calls) rules rows = final_rows (next s.order width st c) calls (records_after s st c rules rows) (rows_after s st c rules rows)

-- The calls are performed, each as the reference performs it: the answers are its replies, b' stands for its state after them and has
-- the records and the rows that they leave, each call's own rows hold what it kept, and the tables are still the caller's two.
pub record PerformsAll {G R : Type 0} (s : Scaled G R) (b : RuleBase G R) (calls : List (Call G)) (answers : List (Result (Answer G) Refusal)) (readings readings' : List R) (b' : RuleBase G R) : Type 0 where
  pub replied : told_all s answers readings' ≡ replies s.order width (state_in s b) calls
  pub state : state_in s b' ≡ final s.order width (state_in s b) calls
  pub rules : rules_in b' ≡ final_records s (state_in s b) calls (rules_in b) (rows_in b)
  pub rows : rows_in b' ≡ final_rows s (state_in s b) calls (rules_in b) (rows_in b)
  pub kept : readings' ≡ kept_all s (state_in s b) calls answers readings ++ drop (width * length calls) readings
  pub tables : KeepsTables s b b'

-- A run from opening agrees with the reference: as many calls are performed as there is room for, the answers are the reference's,
-- the tables are exactly those of its places after those calls, and all else that was lent is as it was.
pub record RunsAgree {G R : Type 0} (s : Scaled G R) (rules : List Record) (rows : List R) (calls : List (Call G)) (answers : List (Result (Answer G) Refusal)) (readings : List R) (answers' : List (Result (Answer G) Refusal)) (readings' : List R) (base : RuleBase G R) (performed : ℕ) : Type 0 where
  pub count : performed ≡ performed_of calls answers readings
  pub agree : told_all s (take performed answers') readings' ≡ replies s.order width (opened s.order width (count_of rules rows)) (first_calls performed calls)
  pub state : state_in s base ≡ final s.order width (opened s.order width (count_of rules rows)) (first_calls performed calls)
  pub exact : Exact s (rules_in base) (rows_in base)
  pub answers_rest : drop performed answers' ≡ drop performed answers
  pub rows_kept : readings' ≡ kept_all s (opened s.order width (count_of rules rows)) (first_calls performed calls) (take performed answers') readings ++ drop (width * performed) readings
  pub tables_rest : KeepsRest rules rows (rules_in base) (rows_in base)
