-- What the reference says to a conflict call and to a mend.
use Rattle.std.proofs.Common.{◌≡◌, ℕ, ◌↔◌, List, sym, ap, ◌∙◌}
use Rattle.scale.specs.Laws.{Order, Scaled}
use Rattle.semantics.specs.Rules.{Rule, conflict}
use Rattle.semantics.specs.Sets.{width}
use Rattle.semantics.specs.Statements.{Fits, Graded}
use Rattle.semantics.proofs.Objections.{free_of_conflict, stable_frees}
use Rattle.rulebase.specs.declared.call.Call.TheVariants.{Cut, Mend, Conflict}
use Rattle.rulebase.specs.declared.base.RuleBase.{RuleBase}
use Rattle.rulebase.specs.Calls.{SomeStable, rules_in, rows_in, state_in, cut_records, cut_rows}
use Rattle.rulebase.specs.Runs.{Performs}
use Rattle.rulebase.specs.Tables.{count_of}
use Rattle.rulebase.specs.Reference.{State, Reply, refused, done, emptied, mended, model, no_more, grade, held, cut_count, reply, next}

-- the conflict is the bottom exactly where some set is stable
pub conflict-bottom : {G : Type 0} (o : Order G) (P : List (Rule G)) (g : G) → g ≡ conflict o width P → Fits width P → Graded o P → (g ≡ o.bottom) ↔ SomeStable o P
conflict-bottom o P g e fits graded = (λ b. free_of_conflict o width P fits graded (sym e ∙ b), λ a. e ∙ stable_frees o width P fits a.0 a.2)

module _ {G : Type 0} (o : Order G) (w : ℕ) (st : State G) where
  -- the grade and the count that an answer tells
  abbrev grade_told : G → Reply G → G
  grade_told d (grade g) = g
  grade_told d (refused n) = d
  grade_told d done = d
  grade_told d (emptied n) = d
  grade_told d (mended g n) = d
  grade_told d (model A gs) = d
  grade_told d no_more = d

  abbrev count_told : Reply G → ℕ
  count_told (emptied n) = n
  count_told (refused n) = 0
  count_told done = 0
  count_told (grade g) = 0
  count_told (mended g n) = 0
  count_told (model A gs) = 0
  count_told no_more = 0

  -- a cut at the conflict is a mend
  module _ (g : G) (e : grade g ≡ reply o w st Conflict) where
    is_conflict : g ≡ conflict o w (held st.places)
    unfolding reply conflict
    is_conflict = ap (grade_told g) e

    pub mend_reply : (n : ℕ) → emptied n ≡ reply o w st (Cut g) → mended g n ≡ reply o w st Mend
    unfolding reply
    mend_reply n c = ap (mended g) (ap count_told c) ∙ ap (λ (h : G). mended h (cut_count o w h st.places)) is_conflict

    pub mend_next : next o w st (Cut g) ≡ next o w st Mend
    unfolding next
    mend_next = ap (λ (h : G). next o w st (Cut h)) is_conflict

-- and does to a rule base what a mend does
pub cut_mends : {G R : Type 0} (s : Scaled G R) (b b' : RuleBase G R) (g : G) (n : ℕ) → grade g ≡ reply s.order width (state_in s b) Conflict → Performs s b (Cut g) (emptied n) b' → Performs s b Mend (mended g n) b'
cut_mends s b b' g n e cut =
    let same = is_conflict s.order width (state_in s b) g e in
    let places = count_of (rules_in b) (rows_in b) in
    record {
      answer = mend_reply s.order width (state_in s b) g e n cut.answer;
      state = cut.state ∙ mend_next s.order width (state_in s b) g e;
      rules = cut.rules ∙ ap (λ h. cut_records s h places (rules_in b) (rows_in b)) same;
      rows = cut.rows ∙ ap (λ h. cut_rows s h places (rules_in b) (rows_in b)) same;
      tables = cut.tables;
    }
