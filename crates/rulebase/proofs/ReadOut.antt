-- The next stable set of the rules read out, and its reading, are those of the reference.
use Rattle.std.proofs.Common.{◌≡◌, ℕ, zero, suc, ◌≤◌, Bool, true, false, cond, ltb, List, [], ◌∷◌, map, length, take, drop, Some, None, Option, sym, refl, ap, ◌∙◌, subst, inl, inr, arith, MatchOption}
use Rattle.std.specs.List.{slice_get, range_with_len}
use mathlib.Core.Path.{fun_ext}
use Rattle.std.proofs.lemmas.List.FromFn.{length-map-range_with_len, get_or-map-range_with_len, fill_by_all}
use Rattle.std.proofs.lemmas.Simd.{map-map}
use Rattle.std.proofs.lemmas.List.{take_at}
use Rattle.std.proofs.lemmas.Bool.{and_parts}
use Rattle.scale.specs.Laws.{Scaled, above}
use Rattle.semantics.specs.Sets.{width}
use Rattle.semantics.specs.Rules.{Rule, Among, reduct, reading, necessity, stable, stable_below, stable_sets}
use Rattle.semantics.specs.Plain.{weigh, weighted, rows_of, over, truth, held as held_true}
use Rattle.semantics.specs.Statements.{Fits, Graded, as_true}
use Rattle.semantics.specs.declared.rule.PlainRule.{PlainRule}
use Rattle.semantics.proofs.Alike.{stable_on_truth}
use Rattle.semantics.proofs.Members.{option_weaker}
use Rattle.semantics.proofs.Objections.{necessity_is_grade}
use Rattle.semantics.proofs.Plain.{weighted-fits}
use Rattle.semantics.proofs.Reducts.{reduct-fits}
use Rattle.search.specs.Admissible.{NoSuch, Least}
use Rattle.grading.specs.Laid.{Short, Laid}
use Rattle.grading.proofs.Laying.{over-short, length-rows}
use Rattle.rulebase.specs.Ahead.{start, Ahead, Read}
use Rattle.rulebase.specs.Reference.{after, held, passed, model}
use Rattle.rulebase.specs.Tables.{most_places, holds, pairs_of, places_of, standing_of, state_of}
use Rattle.rulebase.specs.declared.cursor.Cursor.{Cursor}
use Rattle.rulebase.specs.declared.cursor.Cursor.TheVariants as cursor
use Rattle.rulebase.specs.declared.rule.Rule.{Rule as Record}
use Rattle.rulebase.proofs.Upcoming.{From, next_is, found-count, passed-all}

module _ {G R : Type 0} (s : Scaled G R) where
  -- the rules with grades, held true, are the rules held true
  pub map-as_true : (rs : List PlainRule) (rows : List R) → map as_true (weighted s rs rows) ≡ held_true rs
  unfolding weighted
  map-as_true [] rows = refl
  map-as_true (r ∷ rs) rows = ap (λ (P : List (Rule Bool)). weigh r true ∷ P) (map-as_true rs rows)

  -- no rule of a place has the bottom grade
  pub pairs-graded : (k : ℕ) (rules : List Record) (rows : List R) → Graded s.order (held (take k (pairs_of s rules rows)))
  unfolding pairs_of
  pairs-graded zero rules rows q i = absurd i
  pairs-graded (suc k) [] rows q i = absurd i
  pairs-graded (suc k) (r ∷ rules) [] q i = absurd i
  pairs-graded (suc k) (r ∷ rules) (x ∷ rows) q i = go (holds s r x) refl (pairs-graded k rules rows q) i
    where
      rest : List (Option (Rule G))
      rest = take k (pairs_of s rules rows)

      own : Rule G
      own = record { head = r.head; pos = r.pos; neg = r.neg; grade = s.read_of x }

      go : (b : Bool) → holds s r x ≡ b → (Among q (held rest) → above s.order q.grade ≡ true) → Among q (held (cond b (Some own) None ∷ rest)) → above s.order q.grade ≡ true
      go true e ih (inl d) = ap (λ (p : Rule G). above s.order p.grade) d ∙ (and_parts (ltb r.head width) (above s.order (s.read_of x)) (and_parts r.marked _ e).1).1
      go true e ih (inr j) = ih j
      go false e ih j = ih j

  pub places-graded : (rules : List Record) (rows : List R) → Graded s.order (held (places_of s rules rows))
  unfolding places_of
  places-graded rules rows = pairs-graded most_places rules rows

  -- the grades of the rows laid over a buffer
  pub laid-read : (w : ℕ) (f : ℕ → G) (before : List R) → w ≤ length before → map s.read_of (take w (over (rows_of s w f) before)) ≡ map f (range_with_len 0 w)
  unfolding rows_of
  laid-read w f before room =
      let rows = map (λ x. s.row_of (f x)) (range_with_len 0 w) in
      let long : length rows ≡ w = length-rows s w f in
      ap (λ (b : List R). map s.read_of (take w b)) (over-short rows before (omega arith))
      ∙ ap (map s.read_of) (take_at rows (drop (length rows) before) w long)
      ∙ map-map s.read_of (λ x. s.row_of (f x)) (range_with_len 0 w)
      ∙ ap (λ (g : ℕ → G). map g (range_with_len 0 w)) (fun_ext (λ x. s.reads (f x)))

  -- the necessities in a reduct are the grades of the reading
  pub necessities : (w : ℕ) (P : List (Rule G)) (A : ℕ) → Fits w P → map (necessity s.order w (reduct A P)) (range_with_len 0 w) ≡ map (reading s.order w P A) (range_with_len 0 w)
  unfolding reading
  necessities w P A fits =
      let o = s.order in
      fill_by_all (reading o w P A) (map (necessity o w (reduct A P)) (range_with_len 0 w)) w o.bottom (length-map-range_with_len (necessity o w (reduct A P)) 0 w)
      (λ k l. get_or-map-range_with_len (necessity o w (reduct A P)) 0 w k k o.bottom l (omega arith) ∙ necessity_is_grade o w (reduct A P) (reduct-fits w A P fits) k l)

  below_none : (w : ℕ) (P : List (Rule G)) → 0 ≡ length (stable_below s.order w P 0)
  unfolding stable_below
  below_none w P = refl

  -- a cursor has passed the stable sets below its start
  pub passed_start : (P : List (Rule G)) (c : Cursor) → passed (standing_of s P c) ≡ length (stable_below s.order width P (start c))
  passed_start P cursor.Stale = below_none width P
  passed_start P cursor.First = below_none width P
  passed_start P (cursor.After set) = refl
  passed_start P cursor.Ended = refl

  pub laid-rows : (P : List (Rule G)) (A : ℕ) (entry exit : List R) (n : Option ℕ) → MatchOption n (Short entry exit) (Laid s P A entry exit) → width ≤ length entry → exit ≡ over (rows_of s width (reading s.order width P A)) entry
  laid-rows P A entry exit None h room = let l = h.short in absurd (omega arith)
  laid-rows P A entry exit (Some n) h room = h.rows

  module _ (rules : List Record) (rows : List R) (rs : List PlainRule) (e : weighted s rs rows ≡ held (places_of s rules rows)) where
    abbrev P : List (Rule G)
    P = held (places_of s rules rows)

    pub places_fit : Fits width P
    places_fit = subst (Fits width) e (weighted-fits s rs rows)

    -- the stable sets of the rules read out
    pub same-stable : (A : ℕ) → stable s.order width P A ≡ stable truth width (held_true rs) A
    same-stable A =
        stable_on_truth s.order width P places_fit (places-graded rules rows) A
        ∙ ap (λ (Q : List (Rule Bool)). stable truth width Q A) (ap (map as_true) (sym e) ∙ map-as_true rs rows)

    module _ (c : Cursor) where
      from_ahead : (r : Option ℕ) → MatchOption r (NoSuch (Ahead rs (start c))) (Least (Ahead rs (start c))) → MatchOption r (NoSuch (From s.order width P (start c))) (Least (From s.order width P (start c)))
      from_ahead r h =
          let there : (A : ℕ) → Ahead rs (start c) A → From s.order width P (start c) A = λ A a. (same-stable A ∙ a.0, a.1) in
          let back : (A : ℕ) → From s.order width P (start c) A → Ahead rs (start c) A = λ A f. (sym (same-stable A) ∙ f.0, f.1) in
          option_weaker r (NoSuch (Ahead rs (start c))) (NoSuch (From s.order width P (start c))) (Least (Ahead rs (start c))) (Least (From s.order width P (start c))) h
          (λ none b f. none b (back b f))
          (λ a l. record { passes = there a l.passes; least = λ b f. l.least b (back b f) })

      pub read_none : (entry : List R) → NoSuch (Ahead rs (start c)) → Read s (state_of s rules rows c) entry entry None
      unfolding state_of
      read_none entry h =
          let f = from_ahead None h in
          record {
            set = next_is s.order width P (start c) None f ∙ ap (slice_get (stable_sets s.order width P)) (sym (passed_start P c));
            rows = refl;
            told = refl;
            moves = ap after (ap length (passed-all s.order width P (start c) f) ∙ sym (passed_start P c));
          }

      pub read_some : (entry exit : List R) (a : ℕ) → Least (Ahead rs (start c)) a → width ≤ length entry → exit ≡ over (rows_of s width (reading s.order width (weighted s rs rows) a)) entry → Read s (state_of s rules rows c) entry exit (Some a)
      unfolding state_of
      read_some entry exit a h room laid =
          let f = from_ahead (Some a) h in
          let lies : exit ≡ over (rows_of s width (reading s.order width P a)) entry = laid ∙ ap (λ (Q : List (Rule G)). over (rows_of s width (reading s.order width Q a)) entry) e in
          record {
            set = next_is s.order width P (start c) (Some a) f ∙ ap (slice_get (stable_sets s.order width P)) (sym (passed_start P c));
            rows = lies;
            told = ap (model a) (ap (λ (b : List R). map s.read_of (take width b)) lies ∙ laid-read width (reading s.order width P a) entry room ∙ sym (necessities width P a places_fit));
            moves = ap after (found-count s.order width P (start c) a f ∙ ap suc (sym (passed_start P c)));
          }
