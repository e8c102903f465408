-- A list of calls, one call more at a time.
use Rattle.std.proofs.Common.{◌≡◌, ℕ, zero, suc, ◌+◌, ◌*◌, ◌<◌, ◌≤◌, min, List, [], ◌∷◌, ◌++◌, map, length, get_or, take, drop, set, replicate, Some, None, Ok, Err, Result, sym, refl, ap, ◌∙◌, subst, ap₂, append_assoc, append-nil, arith, length-append, length-drop, length-take}
use mathlib.Core.List.{map-append}
use lib.ListN.{length-replicate, length-map}
use Rattle.std.proofs.lemmas.List.{take_more, take_more_set, drop-drop, take-append-le, drop-append-le, take_at, drop_at}
use Rattle.scale.specs.Laws.{Scaled}
use Rattle.scale.specs.declared.refusal.Refusal.{Refusal}
use Rattle.semantics.specs.Sets.{width}
use Rattle.semantics.specs.Plain.{over}
use Rattle.rulebase.specs.declared.base.RuleBase.{RuleBase}
use Rattle.rulebase.specs.declared.call.Answer.{Answer}
use Rattle.rulebase.specs.declared.call.Answer.TheVariants as said
use Rattle.rulebase.specs.declared.call.Call.{Call}
use Rattle.rulebase.specs.declared.rule.Rule.{Rule as Record}
use Rattle.rulebase.specs.Calls.{rules_in, rows_in, state_in, records_after, rows_after}
use Rattle.rulebase.specs.Lists.{first_calls, told_all, kept_all, final_records, final_rows, PerformsAll}
use Rattle.rulebase.specs.Reference.{State, model, reply, next, replies, final}
use Rattle.rulebase.specs.Runs.{told, kept_rows, within, Stays, Performs}
use Rattle.rulebase.specs.Tables.{count_of, KeepsRest, empty_record, places_of, record_of, row_for, Exact}
use Rattle.rulebase.proofs.Setting.{fill_length, places-opened}
use Rattle.rulebase.proofs.Staying.{keeps_then, stays_same, stays_then}

map-replicate : {A B : Type 0} (f : A → B) (n : ℕ) (x : A) → map f (replicate n x) ≡ replicate n (f x)
map-replicate f zero x = refl
map-replicate f (suc n) x = ap (λ l. f x ∷ l) (map-replicate f n x)

pub first-length : {G : Type 0} (n : ℕ) (calls : List (Call G)) → n ≤ length calls → length (first_calls n calls) ≡ n
first-length n calls l = length-map (take n calls) (within width) ∙ length-take n calls ∙ omega arith

-- ---- one call more

module _ {G R : Type 0} (s : Scaled G R) where
  final-push : (st : State G) (cs : List (Call G)) (c : Call G) → final s.order width st (cs ++ c ∷ []) ≡ next s.order width (final s.order width st cs) c
  final-push st [] c = refl
  final-push st (d ∷ cs) c = final-push (next s.order width st d) cs c

  replies-push : (st : State G) (cs : List (Call G)) (c : Call G) → replies s.order width st (cs ++ c ∷ []) ≡ replies s.order width st cs ++ reply s.order width (final s.order width st cs) c ∷ []
  replies-push st [] c = refl
  replies-push st (d ∷ cs) c = ap (λ l. reply s.order width st d ∷ l) (replies-push (next s.order width st d) cs c)

  records-push : (st : State G) (cs : List (Call G)) (c : Call G) (rules : List Record) (rows : List R) → final_records s st (cs ++ c ∷ []) rules rows ≡ records_after s (final s.order width st cs) c (final_records s st cs rules rows) (final_rows s st cs rules rows)
  records-push st [] c rules rows = refl
  records-push st (d ∷ cs) c rules rows = records-push (next s.order width st d) cs c (records_after s st d rules rows) (rows_after s st d rules rows)

  rows-push : (st : State G) (cs : List (Call G)) (c : Call G) (rules : List Record) (rows : List R) → final_rows s st (cs ++ c ∷ []) rules rows ≡ rows_after s (final s.order width st cs) c (final_records s st cs rules rows) (final_rows s st cs rules rows)
  rows-push st [] c rules rows = refl
  rows-push st (d ∷ cs) c rules rows = rows-push (next s.order width st d) cs c (records_after s st d rules rows) (rows_after s st d rules rows)

  -- an answer reads no more than the front of its rows
  told_front : (a : Result (Answer G) Refusal) (xs ys : List R) → take width xs ≡ take width ys → told s a xs ≡ told s a ys
  told_front (Err e) xs ys p = refl
  told_front (Ok said.Done) xs ys p = refl
  told_front (Ok (said.Emptied n)) xs ys p = refl
  told_front (Ok (said.Mended m)) xs ys p = refl
  told_front (Ok (said.Fetched None)) xs ys p = refl
  told_front (Ok (said.Fetched (Some A))) xs ys p = ap (λ l. model A (map s.read_of l)) p
  told_front (Ok (said.Conflict g)) xs ys p = refl

  -- a call keeps the number of its rows
  pub kept-length : (st : State G) (a : Result (Answer G) Refusal) (rows : List R) → length (kept_rows s st a rows) ≡ length rows
  unfolding over
  kept-length st (Err e) rows = refl
  kept-length st (Ok said.Done) rows = refl
  kept-length st (Ok (said.Emptied n)) rows = refl
  kept-length st (Ok (said.Mended m)) rows = refl
  kept-length st (Ok (said.Fetched None)) rows = refl
  kept-length st (Ok (said.Fetched (Some A))) rows = simp (length-append, length-take, length-drop) (omega arith)
  kept-length st (Ok (said.Conflict g)) rows = refl

  -- the rows front are those of the answers before, new those of the answer a
  told_push : (answers : List (Result (Answer G) Refusal)) (a : Result (Answer G) Refusal) (front new rest old : List R) → length front ≡ width * length answers → length new ≡ width → told_all s (answers ++ a ∷ []) (front ++ (new ++ rest)) ≡ told_all s answers (front ++ old) ++ told s a new ∷ []
  told_push [] a [] new rest old p q = ap (λ r. r ∷ []) (told_front a (new ++ rest) new (take-append-le width new rest (omega arith)))
  told_push [] a (x ∷ front) new rest old p q = absurd (omega arith)
  told_push (b ∷ answers) a front new rest old p q =
      ap₂ (λ r l. r ∷ l)
      (told_front b (front ++ (new ++ rest)) (front ++ old) (take-append-le width front (new ++ rest) (omega arith) ∙ sym (take-append-le width front old (omega arith))))
      (ap (told_all s (answers ++ a ∷ [])) (drop-append-le width front (new ++ rest) (omega arith))
      ∙ told_push answers a (drop width front) new rest old (length-drop width front ∙ omega arith) q
      ∙ ap (λ l. told_all s answers l ++ told s a new ∷ []) (sym (drop-append-le width front old (omega arith))))

  kept_push : (st : State G) (cs : List (Call G)) (c : Call G) (answers : List (Result (Answer G) Refusal)) (a : Result (Answer G) Refusal) (rows : List R) → length answers ≡ length cs → kept_all s st (cs ++ c ∷ []) (answers ++ a ∷ []) rows ≡ kept_all s st cs answers rows ++ kept_rows s (final s.order width st cs) a (take width (drop (width * length cs) rows))
  kept_push st [] c [] a rows p = append-nil _
  kept_push st [] c (b ∷ answers) a rows p = absurd (omega arith)
  kept_push st (d ∷ cs) c [] a rows p = absurd (omega arith)
  kept_push st (d ∷ cs) c (b ∷ answers) a rows p =
      let f = final s.order width st (d ∷ cs) in
      let n : width + width * length cs ≡ width * length (d ∷ cs) = omega arith in
      ap (λ l. kept_rows s st b (take width rows) ++ l) (kept_push (next s.order width st d) cs c answers a (drop width rows) (omega arith)
      ∙ ap (λ l. kept_all s (next s.order width st d) cs answers (drop width rows) ++ kept_rows s f a (take width l)) (drop-drop (width * length cs) width rows ∙ ap (λ k. drop k rows) n))
      ∙ sym (append_assoc (kept_rows s st b (take width rows)) (kept_all s (next s.order width st d) cs answers (drop width rows)) _)

-- ---- the loop

-- the first i calls are performed, and they had rows enough
pub record RunTo {G R : Type 0} (s : Scaled G R) (a : RuleBase G R) (calls : List (Call G)) (rows : List R) (i : ℕ) (b : RuleBase G R) (answers : List (Result (Answer G) Refusal)) (rows' : List R) : Type 0 where
  pub performs : PerformsAll s a (first_calls i calls) (take i answers) rows rows' b
  pub front_length : length (kept_all s (state_in s a) (first_calls i calls) (take i answers) rows) ≡ width * i

module _ {G R : Type 0} (s : Scaled G R) (a : RuleBase G R) (calls : List (Call G)) (rows : List R) where
  -- no call yet
  pub run_none : (answers : List (Result (Answer G) Refusal)) → RunTo s a calls rows 0 a answers rows
  run_none answers = record {
    performs = record {
      replied = refl;
      state = refl;
      rules = refl;
      rows = refl;
      kept = refl;
      tables = record { stays = stays_same s (rules_in a) (rows_in a); rules_name = refl; rows_name = refl };
    };
    front_length = refl;
  }

  -- one call more, performed on its own rows; they then hold what `new` is
  module _ (i k : ℕ) (b b' : RuleBase G R) (now : List (Result (Answer G) Refusal)) (rs new : List R) (call : Call G) (x : Result (Answer G) Refusal) where
    abbrev own : List R
    own = take k (drop (width * i) rs)

    pub run_more : i < length calls → i < length now → width * i + width ≤ length rows → k ≡ width → call ≡ get_or calls i call → RunTo s a calls rows i b now rs → Performs s b (within (length own) call) (told s x new) b' → new ≡ kept_rows s (state_in s b) x own → RunTo s a calls rows (i + 1) b' (set now i x) (take (width * i) rs ++ (new ++ drop k (drop (width * i) rs)))
    run_more l m room wide is inv done rows_are =
        let h = inv.performs in
        let st = state_in s a in
        let o = s.order in
        let cs = first_calls i calls in
        let c = within width call in
        let F = kept_all s st cs (take i now) rows in
        let Q = drop (width * i) rows in
        let on : width * i + width ≡ width * (i + 1) = omega arith in
        let long : length cs ≡ i = first-length i calls (omega arith) in
        let kept : rs ≡ F ++ Q = h.kept ∙ ap (λ k. F ++ drop (width * k) rows) long in
        let front : take (width * i) rs ≡ F = ap (take (width * i)) kept ∙ take_at F Q (width * i) inv.front_length in
        let back : drop (width * i) rs ≡ Q = ap (drop (width * i)) kept ∙ drop_at F Q (width * i) inv.front_length in
        let own-same : own ≡ take width Q = ap₂ (λ n q. take n q) wide back in
        let rest : drop k (drop (width * i) rs) ≡ drop (width * (i + 1)) rows = ap₂ (λ n q. drop n q) wide back ∙ drop-drop width (width * i) rows ∙ ap (λ n. drop n rows) on in
        let own-length : length own ≡ width = ap (λ q. length q) own-same ∙ length-take width Q ∙ ap (min width) (length-drop (width * i) rows) ∙ omega arith in
        let calls-on : first_calls (i + 1) calls ≡ cs ++ c ∷ [] = ap (map (within width)) (take_more calls i call l ∙ ap (λ y. take i calls ++ y ∷ []) (sym is)) ∙ map-append (within width) (take i calls) (call ∷ []) in
        let answers-on : take (i + 1) (set now i x) ≡ take i now ++ x ∷ [] = take_more_set now i x m in
        let long' : length (take i now) ≡ i = length-take i now ∙ omega arith in
        let new-same : kept_rows s (final o width st cs) x (take width (drop (width * length cs) rows)) ≡ new = ap₂ (λ t q. kept_rows s t x q) (sym h.state) (ap (λ k. take width (drop (width * k) rows)) long ∙ sym own-same) ∙ sym rows_are in
        let front-on : kept_all s st (first_calls (i + 1) calls) (take (i + 1) (set now i x)) rows ≡ F ++ new = ap₂ (λ u v. kept_all s st u v rows) calls-on answers-on ∙ kept_push s st cs c (take i now) x rows (long' ∙ sym long) ∙ ap (λ q. F ++ q) new-same in
        let new-length : length new ≡ width = ap (λ q. length q) rows_are ∙ kept-length s (state_in s b) x own ∙ own-length in
        let all : take (width * i) rs ++ (new ++ drop k (drop (width * i) rs)) ≡ F ++ (new ++ drop (width * (i + 1)) rows) = ap₂ (λ p q. p ++ (new ++ q)) front rest in
        let e = subst (λ (n : ℕ). Performs s b (within n call) (told s x new) b') own-length done in
        record {
          performs = record {
            replied =
                ap₂ (told_all s) answers-on all
                ∙ told_push s (take i now) x F new (drop (width * (i + 1)) rows) Q (inv.front_length ∙ ap (λ k. width * k) (sym long')) new-length
                ∙ ap₂ (λ u r. u ++ r ∷ []) (ap (told_all s (take i now)) (sym kept) ∙ h.replied) (e.answer ∙ ap (λ t. reply o width t c) h.state)
                ∙ sym (ap (replies o width st) calls-on ∙ replies-push s st cs c);
            state = e.state ∙ ap (λ t. next o width t c) h.state ∙ sym (ap (final o width st) calls-on ∙ final-push s st cs c);
            rules =
                e.rules ∙ ap (λ t. records_after s t c (rules_in b) (rows_in b)) h.state ∙ ap₂ (λ p q. records_after s (final o width st cs) c p q) h.rules h.rows
                ∙ sym (ap (λ l. final_records s st l (rules_in a) (rows_in a)) calls-on ∙ records-push s st cs c (rules_in a) (rows_in a));
            rows =
                e.rows ∙ ap (λ t. rows_after s t c (rules_in b) (rows_in b)) h.state ∙ ap₂ (λ p q. rows_after s (final o width st cs) c p q) h.rules h.rows
                ∙ sym (ap (λ l. final_rows s st l (rules_in a) (rows_in a)) calls-on ∙ rows-push s st cs c (rules_in a) (rows_in a));
            kept = all ∙ sym (append_assoc F new (drop (width * (i + 1)) rows)) ∙ ap₂ (λ q k. q ++ drop (width * k) rows) (sym front-on) (sym (first-length (i + 1) calls (omega arith)));
            tables = record {
              stays = stays_then s (rules_in a) (rows_in a) (rules_in b) (rows_in b) (rules_in b') (rows_in b') h.tables.stays e.tables.stays;
              rules_name = e.tables.rules_name ∙ h.tables.rules_name;
              rows_name = e.tables.rows_name ∙ h.tables.rows_name;
            };
          };
          front_length = ap (λ q. length q) front-on ∙ length-append F new ∙ ap₂ (λ p q. p + q) inv.front_length new-length ∙ on;
        }

-- ---- after opening

-- the tables as an opening leaves them
pub record Opened {G R : Type 0} (s : Scaled G R) (rules : List Record) (rows : List R) (rules' : List Record) (rows' : List R) : Type 0 where
  pub rest : KeepsRest rules rows rules' rows'
  pub exact : Exact s rules' rows'

module _ {G R : Type 0} (s : Scaled G R) (rules : List Record) (rows : List R) where
  pub opened_tables : (rules' : List Record) (rows' : List R) → rules' ≡ replicate (count_of rules rows) empty_record ++ drop (count_of rules rows) rules → rows' ≡ replicate (count_of rules rows) (s.row_of s.order.bottom) ++ drop (count_of rules rows) rows → Opened s rules rows rules' rows'
  opened_tables rules' rows' p q =
      let n = count_of rules rows in
      let x = s.row_of s.order.bottom in
      let j : length rules' ≡ length rules = ap (λ l. length l) p ∙ fill_length n empty_record rules (omega arith) in
      let k : length rows' ≡ length rows = ap (λ l. length l) q ∙ fill_length n x rows (omega arith) in
      let m : count_of rules' rows' ≡ n = ap₂ (λ u v. min (min u v) 1024) j k in
      let places : places_of s rules' rows' ≡ replicate n None = ap₂ (places_of s) p q ∙ places-opened s rules rows x in
      record {
        rest = record {
          rules_length = j;
          rows_length = k;
          rules_rest = ap (drop n) p ∙ drop_at (replicate n empty_record) (drop n rules) n (length-replicate n empty_record);
          rows_rest = ap (drop n) q ∙ drop_at (replicate n x) (drop n rows) n (length-replicate n x);
        };
        exact = record {
          records = ap₂ take m p ∙ take_at (replicate n empty_record) (drop n rules) n (length-replicate n empty_record) ∙ sym (ap (map record_of) places ∙ map-replicate record_of n None);
          grades = ap₂ take m q ∙ take_at (replicate n x) (drop n rows) n (length-replicate n x) ∙ sym (ap (map (row_for s)) places ∙ map-replicate (row_for s) n None);
        };
      }

  -- and after what leaves them as Stays says
  pub opened_then : (b : List Record) (y : List R) (c : List Record) (z : List R) → Opened s rules rows b y → Stays s b y c z → Opened s rules rows c z
  opened_then b y c z p q = record { rest = keeps_then p.rest q.rest; exact = q.exact p.exact }
