-- What the places hold, place by place, and after a write at one of them.
use Rattle.std.proofs.Common.{◌≡◌, ℕ, ◌<◌, ◌≤◌, true, ltb, List, [], ◌∷◌, ◌++◌, length, get_or, drop, set, replicate, Some, None, Option, sym, refl, ap, ◌∙◌, arith, length-append, length-drop}
use lib.ListN.{length-replicate}
use Rattle.std.proofs.lemmas.List.{get_or_append_left, get_or-replicate, ext_get_or}
use Rattle.std.proofs.lemmas.Bool.{lt-ltb, cond-true, and_from}
use Rattle.std.specs.List.{FoldsTo}
use Rattle.scale.specs.Laws.{Scaled, above}
use Rattle.semantics.specs.Sets.{width}
use Rattle.semantics.specs.Rules.{Rule}
use Rattle.rulebase.specs.declared.rule.Rule.{Rule as Record}
use Rattle.rulebase.specs.declared.cursor.Cursor.TheVariants as cursor
use Rattle.rulebase.specs.Calls.{marked_record}
use Rattle.rulebase.specs.Reference.{stale, opened}
use Rattle.rulebase.specs.Tables.{count_of, place_of, places_of, empty_record, record_of, row_for, state_of}
use Rattle.rulebase.specs.Runs.{Stays}
use Rattle.rulebase.proofs.Staying.{stays_as, stays-set, place_steps}
use Rattle.rulebase.proofs.Places.{length-places, get_or-places}

-- ---- opening

-- what calls gave that all gave y
pub filled_with : {P A : Type 0} (R : P → A → P → Type 0) (y : A) (Keeps : P → Type 0) → ((p : P) (x : A) (q : P) → Keeps p → R p x q → (x ≡ y) × Keeps q) → (xs : List A) (p q : P) → Keeps p → FoldsTo R p xs q → xs ≡ replicate (length xs) y
filled_with R y Keeps same [] p q k h = refl
filled_with R y Keeps same (x ∷ xs) p q k h =
    let first = same p x h.0 k h.1 in
    λ i. first.0 i ∷ filled_with R y Keeps same xs h.0 q first.1 h.2 i

fill_at : {A : Type 0} (n : ℕ) (y : A) (d : List A) (k : ℕ) (z : A) → k < n → get_or (replicate n y ++ drop n d) k z ≡ y
fill_at n y d k z h =
    let l = length-replicate n y in
    get_or_append_left (replicate n y) (drop n d) z k (omega arith) ∙ get_or-replicate n k y z h

pub fill_length : {A : Type 0} (n : ℕ) (y : A) (d : List A) → n ≤ length d → length (replicate n y ++ drop n d) ≡ length d
fill_length n y d h = simp (length-append, length-replicate, length-drop) (omega arith)

pub places-opened : {G R : Type 0} (s : Scaled G R) (rs : List Record) (xs : List R) (x : R) → places_of s (replicate (count_of rs xs) empty_record ++ drop (count_of rs xs) rs) (replicate (count_of rs xs) x ++ drop (count_of rs xs) xs) ≡ replicate (count_of rs xs) None
places-opened {G} s rs xs x =
    let n = count_of rs xs in
    let rs' = replicate n empty_record ++ drop n rs in
    let xs' = replicate n x ++ drop n xs in
    let p : length rs' ≡ length rs = fill_length n empty_record rs (omega arith) in
    let q : length xs' ≡ length xs = fill_length n x xs (omega arith) in
    let m : count_of rs' xs' ≡ n = omega arith in
    let l = length-places s rs' xs' in
    let o = length-replicate {A = Option (Rule G)} n None in
    ext_get_or None (places_of s rs' xs') (replicate n None) (omega arith) (λ i h. let i<n : i < n = omega arith in get_or-places s rs' xs' i empty_record x None (omega arith) ∙ ap (λ r. place_of s r (get_or xs' i x)) (fill_at n empty_record rs i empty_record i<n) ∙ sym (get_or-replicate n i None None i<n))

-- ---- the state after a write at one place

module _ {G R : Type 0} (s : Scaled G R) where
  -- a record that is marked, with an atom for its head, and the row of a grade above the bottom
  pub place_held : (head pos neg : ℕ) (g : G) → head < width → above s.order g ≡ true → place_of s (marked_record head pos neg) (s.row_of g) ≡ Some (record { head = head; pos = pos; neg = neg; grade = g })
  place_held head pos neg g l high =
      cond-true _ _ _ (and_from (ltb head width) _ (lt-ltb head width l) (ap (above s.order) (s.reads g) ∙ high))
      ∙ ap (λ (x : G). Some (record { head = head; pos = pos; neg = neg; grade = x })) (s.reads g)

  -- one place gets such a record and such a row
  pub stays_entered : (rules : List Record) (rows : List R) (k head pos neg : ℕ) (g : G) (rules' : List Record) (rows' : List R) → rules' ≡ set rules k (marked_record head pos neg) → rows' ≡ set rows k (s.row_of g) → k < count_of rules rows → head < width → above s.order g ≡ true → Stays s rules rows rules' rows'
  stays_entered rules rows k head pos neg g rules' rows' p q l low high =
      let is = place_held head pos neg g low high in
      stays_as s rules rows p q (stays-set s rules rows k _ _ l (sym (ap record_of is)) (sym (ap (row_for s) is)))

  pub state-opened : (rules : List Record) (rows : List R) (x : R) → state_of s (replicate (count_of rules rows) empty_record ++ drop (count_of rules rows) rules) (replicate (count_of rules rows) x ++ drop (count_of rules rows) rows) cursor.Stale ≡ opened s.order width (count_of rules rows)
  unfolding state_of
  state-opened rules rows x = ap (λ (ps : List (Option (Rule G))). record { places = ps; standing = stale }) (places-opened s rules rows x)

-- what the goals of an entry use
pub ruleset entry_steps = (place_steps, place_held)
