-- A cut, place by place.
use Rattle.std.proofs.Common.{◌≡◌, ℕ, zero, suc, ◌+◌, ◌<◌, ◌≤◌, min, Bool, true, false, cond, ◌&&◌, List, [], ◌∷◌, map, length, get_or, take, set, Some, None, Option, MatchOption, sym, refl, ap, ◌∙◌, ap₂, add-one, arith}
use Rattle.scale.specs.Laws.{Scaled}
use Rattle.semantics.specs.Sets.{width}
use Rattle.semantics.specs.Rules.{Rule}
use Rattle.rulebase.specs.declared.rule.Rule.{Rule as Record}
use Rattle.rulebase.specs.declared.call.Call.TheVariants.{Cut}
use Rattle.rulebase.specs.declared.cursor.Cursor.{Cursor}
use Rattle.rulebase.specs.declared.cursor.Cursor.TheVariants.{Stale}
use Rattle.rulebase.specs.declared.holding.Entry.{Entry}
use Rattle.rulebase.specs.Entries.{entered}
use Rattle.rulebase.specs.Reference.{stale, emptied, at, cut_place, cut_of, cut_count, reply, next}
use Rattle.rulebase.specs.Tables.{most_places, count_of, holds, place_of, pairs_of, places_of, state_of, empty_record, record_of, row_for, Exact}
use Rattle.rulebase.specs.Calls.{beside, is_cut, cut_records, cut_rows}
use Rattle.rulebase.proofs.Beside.{length-beside, drop-beside, get_or-beside, beside_test}
use Rattle.rulebase.specs.Runs.{Stays}
use Rattle.rulebase.proofs.Places.{place_grade, get_or-places, places_are}
use Rattle.rulebase.proofs.Staying.{stays_as}

at_most_one : (b : Bool) → cond {A = ℕ} b 1 0 ≤ 1
at_most_one true = omega arith
at_most_one false = omega arith

module _ {G R : Type 0} (s : Scaled G R) (g : G) where
  -- the two tables keep their lengths
  pub long_records : (n : ℕ) (rules : List Record) (rows : List R) → length (cut_records s g n rules rows) ≡ length rules
  long_records n rules rows = length-beside _ n rules rows

  pub long_rows : (n : ℕ) (rules : List Record) (rows : List R) → length (cut_rows s g n rules rows) ≡ length rows
  long_rows n rules rows = length-beside _ n rows rules

  pub count_cut : (n : ℕ) (rules : List Record) (rows : List R) → count_of (cut_records s g n rules rows) (cut_rows s g n rules rows) ≡ count_of rules rows
  count_cut n rules rows = ap₂ (λ a b. min (min a b) most_places) (long_records n rules rows) (long_rows n rules rows)

  -- the test of the code, at what a place holds
  module _ (p : Option (Entry G)) {b : Bool} (tested : MatchOption p (b ≡ false) (λ e. b ≡ s.order.at_most e.grade g)) where
    test_of : (r : Record) (x : R) → entered p ≡ place_of s r x → b ≡ is_cut s g r x
    test_of r x is = go p (holds s r x) tested is (λ q e. place_grade s r x q (sym e ∙ is))
      where
        go : (p : Option (Entry G)) (h : Bool) → MatchOption p (b ≡ false) (λ e. b ≡ s.order.at_most e.grade g) → entered p ≡ cond h (Some (record { head = r.head; pos = r.pos; neg = r.neg; grade = s.read_of x })) None → ((q : Rule G) → entered p ≡ Some q → q.grade ≡ s.read_of x) → b ≡ (h && s.order.at_most (s.read_of x) g)
        go None true t e same = grind arith
        go None false t e same = t
        go (Some q) true t e same = t ∙ ap (λ a. s.order.at_most a g) (same _ refl)
        go (Some q) false t e same = grind arith

    pub test_at : (rules : List Record) (rows : List R) (k : ℕ) → k < count_of rules rows → entered p ≡ at (places_of s rules rows) k → b ≡ is_cut s g (get_or rules k empty_record) (get_or rows k (s.row_of s.order.bottom))
    test_at rules rows k l e = test_of (get_or rules k empty_record) (get_or rows k (s.row_of s.order.bottom)) (e ∙ get_or-places s rules rows k empty_record (s.row_of s.order.bottom) None l)

  -- what a cut makes of one place
  pub place_cut : (r : Record) (x : R) → place_of s (cond (is_cut s g r x) empty_record r) (cond (is_cut s g r x) (s.row_of s.order.bottom) x) ≡ cut_place s.order width g (place_of s r x)
  place_cut r x = go (holds s r x) refl (s.order.at_most (s.read_of x) g) refl
    where
      go : (h : Bool) → holds s r x ≡ h → (b : Bool) → s.order.at_most (s.read_of x) g ≡ b → place_of s (cond (is_cut s g r x) empty_record r) (cond (is_cut s g r x) (s.row_of s.order.bottom) x) ≡ cut_place s.order width g (place_of s r x)
      go true h true b = rw (h, b) refl
      go true h false b = rw (h, b) (rw h refl)
      go false h b c = rw h (rw h refl)

  pub pairs-cut : (n : ℕ) (rules : List Record) (rows : List R) → take n (pairs_of s (cut_records s g n rules rows) (cut_rows s g n rules rows)) ≡ map (cut_place s.order width g) (take n (pairs_of s rules rows))
  unfolding pairs_of beside
  pairs-cut zero rules rows = refl
  pairs-cut (suc n) [] rows = refl
  pairs-cut (suc n) (r ∷ rules) [] = refl
  pairs-cut (suc n) (r ∷ rules) (x ∷ rows) = λ i. place_cut r x i ∷ pairs-cut n rules rows i

  -- a cut of all places is the cut of the reference
  pub places-cut : (rules : List Record) (rows : List R) → places_of s (cut_records s g (count_of rules rows) rules rows) (cut_rows s g (count_of rules rows) rules rows) ≡ map (cut_place s.order width g) (places_of s rules rows)
  places-cut rules rows =
      let n = count_of rules rows in
      let rules' = cut_records s g n rules rows in
      let rows' = cut_rows s g n rules rows in
      places_are s rules' rows' ∙ ap (λ m. take m (pairs_of s rules' rows')) (count_cut n rules rows) ∙ pairs-cut n rules rows ∙ ap (map (cut_place s.order width g)) (sym (places_are s rules rows))

  -- how many rules a cut takes from one place
  place_count : (r : Record) (x : R) → cut_of s.order width g (place_of s r x) ≡ cond (is_cut s g r x) 1 0
  place_count r x = go (holds s r x) refl
    where
      go : (h : Bool) → holds s r x ≡ h → cut_of s.order width g (place_of s r x) ≡ cond (is_cut s g r x) 1 0
      go true h = rw h refl
      go false h = rw h refl

  emptied_more : (n : ℕ) (rules : List Record) (rows : List R) (r : Record) (x : R) → n < length rules → n < length rows → cut_count s.order width g (take (suc n) (pairs_of s rules rows)) ≡ cut_count s.order width g (take n (pairs_of s rules rows)) + cond (is_cut s g (get_or rules n r) (get_or rows n x)) 1 0
  unfolding pairs_of
  emptied_more n [] rows r x p q = absurd (omega arith)
  emptied_more n (a ∷ rules) [] r x p q = absurd (omega arith)
  emptied_more zero (a ∷ rules) (b ∷ rows) r x p q = let h = place_count a b in omega arith
  emptied_more (suc n) (a ∷ rules) (b ∷ rows) r x p q = let h = emptied_more n rules rows r x (omega arith) (omega arith) in omega arith

  -- The first n places of two tables have been cut, and count of them emptied.
  pub record CutTo (rules : List Record) (rows : List R) (n : ℕ) (rules' : List Record) (rows' : List R) (count : ℕ) : Type 0 where
    pub records : rules' ≡ cut_records s g n rules rows
    pub grades : rows' ≡ cut_rows s g n rules rows
    pub emptied : count ≡ cut_count s.order width g (take n (pairs_of s rules rows))
    pub few : count ≤ n

  pub cut-none : (rules : List Record) (rows : List R) → CutTo rules rows 0 rules rows 0
  unfolding beside
  cut-none rules rows = record { records = refl; grades = refl; emptied = refl; few = omega arith }

  -- an entry that its place gives is so after a cut too
  entry_cut : {A : Type 0} (f : Option (Rule G) → A) (r : Record) (x : R) (y : A) → y ≡ f (place_of s r x) → cond (is_cut s g r x) (f None) y ≡ f (cut_place s.order width g (place_of s r x))
  entry_cut f r x y e = go (holds s r x) refl (s.order.at_most (s.read_of x) g) refl
    where
      go : (h : Bool) → holds s r x ≡ h → (b : Bool) → s.order.at_most (s.read_of x) g ≡ b → cond (is_cut s g r x) (f None) y ≡ f (cut_place s.order width g (place_of s r x))
      go true h true b = rw (h, b) refl
      go true h false b = rw (h, b) (rw h at e)
      go false h b c = rw h (rw h at e)

  -- and so are all
  entries_cut : (n : ℕ) (rules : List Record) (rows : List R) → take n rules ≡ map record_of (take n (pairs_of s rules rows)) → take n rows ≡ map (row_for s) (take n (pairs_of s rules rows)) → (take n (cut_records s g n rules rows) ≡ map record_of (map (cut_place s.order width g) (take n (pairs_of s rules rows)))) × (take n (cut_rows s g n rules rows) ≡ map (row_for s) (map (cut_place s.order width g) (take n (pairs_of s rules rows))))
  unfolding pairs_of beside
  entries_cut zero rules rows d e = (refl, refl)
  entries_cut (suc n) [] [] d e = (refl, refl)
  entries_cut (suc n) [] (x ∷ rows) d e = (refl, e)
  entries_cut (suc n) (r ∷ rules) [] d e = (d, refl)
  entries_cut (suc n) (r ∷ rules) (x ∷ rows) d e =
      let record_here : r ≡ record_of (place_of s r x) = cc in
      let row_here : x ≡ row_for s (place_of s r x) = cc in
      let rest = entries_cut n rules rows (cc) (cc) in
      (λ i. entry_cut record_of r x r record_here i ∷ rest.0 i, λ i. entry_cut (row_for s) r x x row_here i ∷ rest.1 i)

  -- a cut keeps tables exact
  pub exact-cut : (rules : List Record) (rows : List R) → Exact s rules rows → Exact s (cut_records s g (count_of rules rows) rules rows) (cut_rows s g (count_of rules rows) rules rows)
  exact-cut rules rows e =
      let n = count_of rules rows in
      let same = count_cut n rules rows in
      let first = places_are s rules rows in
      let after : map (cut_place s.order width g) (take n (pairs_of s rules rows)) ≡ places_of s (cut_records s g n rules rows) (cut_rows s g n rules rows) =
      ap (map (cut_place s.order width g)) (sym first) ∙ sym (places-cut rules rows) in
      let entries = entries_cut n rules rows (e.records ∙ ap (map record_of) first) (e.grades ∙ ap (map (row_for s)) first) in
      record {
        records = ap (λ m. take m (cut_records s g n rules rows)) same ∙ entries.0 ∙ ap (map record_of) after;
        grades = ap (λ m. take m (cut_rows s g n rules rows)) same ∙ entries.1 ∙ ap (map (row_for s)) after;
      }

-- A cut that has come to place n.
module _ {G R : Type 0} {s : Scaled G R} {g : G} {rules : List Record} {rows : List R} {n : ℕ} {rules' : List Record} {rows' : List R} {count : ℕ} (h : CutTo s g rules rows n rules' rows' count) where
  pub cut_lengths : (length rules' ≡ length rules) × (length rows' ≡ length rows)
  cut_lengths = (ap length h.records ∙ long_records s g n rules rows, ap length h.grades ∙ long_rows s g n rules rows)

  pub cut-same : {rules'' : List Record} {rows'' : List R} {count'' : ℕ} → rules'' ≡ rules' → rows'' ≡ rows' → count'' ≡ count → CutTo s g rules rows n rules'' rows'' count''
  cut-same a b e = let few = h.few in record { records = a ∙ h.records; grades = b ∙ h.grades; emptied = e ∙ h.emptied; few = omega arith }

  -- one place more
  pub cut_more : (t : Bool) → n < count_of rules rows → t ≡ is_cut s g (get_or rules' n empty_record) (get_or rows' n (s.row_of s.order.bottom)) → CutTo s g rules rows (n + 1) (cond t (set rules' n empty_record) rules') (cond t (set rows' n (s.row_of s.order.bottom)) rows') (count + cond t 1 0)
  cut_more t p e =
      let x = s.row_of s.order.bottom in
      let a : n < length rules = omega arith in
      let b : n < length rows = omega arith in
      let here : t ≡ is_cut s g (get_or rules n empty_record) (get_or rows n x) =
      e ∙ (λ i. is_cut s g (get_or (h.records i) n empty_record) (get_or (h.grades i) n x)) ∙ (λ i. is_cut s g (get_or-beside (λ r y. cond (is_cut s g r y) empty_record r) n rules rows empty_record i) (get_or-beside (λ y r. cond (is_cut s g r y) x y) n rows rules x i)) in
      let most = at_most_one t in
      let few = h.few in
      record {
        records = (λ i. cond (here i) (set (h.records i) n empty_record) (h.records i)) ∙ sym (beside_test (is_cut s g) empty_record n rules rows empty_record x a b) ∙ ap (λ m. cut_records s g m rules rows) (sym (add-one n));
        grades = (λ i. cond (here i) (set (h.grades i) n x) (h.grades i)) ∙ sym (beside_test (λ y r. is_cut s g r y) x n rows rules x empty_record b a) ∙ ap (λ m. cut_rows s g m rules rows) (sym (add-one n));
        emptied = (λ i. h.emptied i + cond {A = ℕ} (here i) 1 0) ∙ sym (emptied_more s g n rules rows empty_record x a b) ∙ ap (λ m. cut_count s.order width g (take m (pairs_of s rules rows))) (sym (add-one n));
        few = omega arith;
      }

  -- all places
  module _ (e : n ≡ count_of rules rows) where
    pub cut_records_lem : rules' ≡ cut_records s g (count_of rules rows) rules rows
    cut_records_lem = h.records ∙ ap (λ m. cut_records s g m rules rows) e

    pub cut_rows_lem : rows' ≡ cut_rows s g (count_of rules rows) rules rows
    cut_rows_lem = h.grades ∙ ap (λ m. cut_rows s g m rules rows) e

    pub cut-stays : Stays s rules rows rules' rows'
    cut-stays =
        let n = count_of rules rows in
        stays_as s rules rows cut_records_lem cut_rows_lem (record {
          rest = record {
            rules_length = long_records s g n rules rows;
            rows_length = long_rows s g n rules rows;
            rules_rest = drop-beside _ n rules rows;
            rows_rest = drop-beside _ n rows rules;
          };
          exact = exact-cut s g rules rows;
        })

    pub cut-reply : (c : Cursor) → emptied count ≡ reply s.order width (state_of s rules rows c) (Cut g)
    unfolding reply state_of
    cut-reply c = ap emptied (h.emptied ∙ ap (λ m. cut_count s.order width g (take m (pairs_of s rules rows))) e ∙ ap (cut_count s.order width g) (sym (places_are s rules rows)))

    pub cut-next : (c : Cursor) → state_of s rules' rows' Stale ≡ next s.order width (state_of s rules rows c) (Cut g)
    unfolding next state_of
    cut-next c =
        let p : places_of s rules' rows' ≡ map (cut_place s.order width g) (places_of s rules rows) =
        (λ i. places_of s (cut_records_lem i) (cut_rows_lem i)) ∙ places-cut s g rules rows in
        λ i. record { places = p i; standing = stale }
