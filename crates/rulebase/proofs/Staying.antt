-- What a change at one place leaves as it was.
use Rattle.std.proofs.Common.{◌≡◌, ℕ, ◌<◌, min, List, map, take, drop, set, sym, refl, ap, ◌∙◌, subst, ap₂, length-set}
use Rattle.std.proofs.lemmas.List.{map-set, drop-set-lt}
use Rattle.scale.specs.Laws.{Scaled}
use Rattle.rulebase.specs.declared.rule.Rule.{Rule as Record}
use Rattle.rulebase.specs.Tables.{count_of, KeepsRest, empty_record, places_of, place_of, record_of, row_for}
use Rattle.rulebase.specs.Runs.{Stays}
use Rattle.rulebase.proofs.Places.{take_of_set, length-places, get_or-places, past_places, set-places}

module _ {G R : Type 0} (s : Scaled G R) (rules : List Record) (rows : List R) where
  pub stays_same : Stays s rules rows rules rows
  stays_same = record { rest = record { rules_length = refl; rows_length = refl; rules_rest = refl; rows_rest = refl }; exact = λ e. e }

  -- one place gets the record and the row of what it then holds
  pub stays-set : (k : ℕ) (r : Record) (x : R) → k < count_of rules rows → r ≡ record_of (place_of s r x) → x ≡ row_for s (place_of s r x) → Stays s rules rows (set rules k r) (set rows k x)
  stays-set k r x l is row = record {
    rest = record {
      rules_length = length-set rules k r;
      rows_length = length-set rows k x;
      rules_rest = drop-set-lt (count_of rules rows) rules k r l;
      rows_rest = drop-set-lt (count_of rules rows) rows k x l;
    };
    exact = λ e.
        let n : count_of (set rules k r) (set rows k x) ≡ count_of rules rows = ap₂ (λ a b. min (min a b) 1024) (length-set rules k r) (length-set rows k x) in
        let p = set-places s rules rows k r x in
        record {
          records =
              ap (λ m. take m (set rules k r)) n ∙ take_of_set (count_of rules rows) rules k r ∙ ap₂ (λ (l : List Record) (q : Record). set l k q) e.records is
              ∙ sym (ap (map record_of) p ∙ map-set record_of (places_of s rules rows) k (place_of s r x));
          grades =
              ap (λ m. take m (set rows k x)) n ∙ take_of_set (count_of rules rows) rows k x ∙ ap₂ (λ (l : List R) (q : R). set l k q) e.grades row
              ∙ sym (ap (map (row_for s)) p ∙ map-set (row_for s) (places_of s rules rows) k (place_of s r x));
        };
  }

-- tables that are the same
pub stays_as : {G R : Type 0} (s : Scaled G R) (rules : List Record) (rows : List R) {a b : List Record} {x y : List R} → b ≡ a → y ≡ x → Stays s rules rows a x → Stays s rules rows b y
stays_as s rules rows {a} {b} {x} {y} p q h = subst (λ (l : List Record). Stays s rules rows l y) (sym p) (subst (Stays s rules rows a) (sym q) h)

pub keeps_then : {A B : Type 0} {a b c : List A} {x y z : List B} → KeepsRest a x b y → KeepsRest b y c z → KeepsRest a x c z
keeps_then {a} {b} {c} {x} {y} {z} p q =
    let n : count_of b y ≡ count_of a x = ap₂ (λ k m. min (min k m) 1024) p.rules_length p.rows_length in
    record {
      rules_length = q.rules_length ∙ p.rules_length;
      rows_length = q.rows_length ∙ p.rows_length;
      rules_rest = subst (λ (k : ℕ). drop k c ≡ drop k b) n q.rules_rest ∙ p.rules_rest;
      rows_rest = subst (λ (k : ℕ). drop k z ≡ drop k y) n q.rows_rest ∙ p.rows_rest;
    }

pub stays_then : {G R : Type 0} (s : Scaled G R) (a : List Record) (x : List R) (b : List Record) (y : List R) (c : List Record) (z : List R) → Stays s a x b y → Stays s b y c z → Stays s a x c z
stays_then s a x b y c z p q = record { rest = keeps_then p.rest q.rest; exact = λ e. q.exact (p.exact e) }

-- one place is emptied
pub stays_emptied : {G R : Type 0} (s : Scaled G R) (rules : List Record) (rows : List R) (k : ℕ) (rules' : List Record) (rows' : List R) → rules' ≡ set rules k empty_record → rows' ≡ set rows k (s.row_of s.order.bottom) → k < count_of rules rows → Stays s rules rows rules' rows'
stays_emptied s rules rows k rules' rows' p q l = stays_as s rules rows p q (stays-set s rules rows k _ _ l refl refl)

-- what the goals of a change at one place use
pub ruleset place_steps = (length-places, get_or-places, past_places, set-places)
