-- The rules held, copied place by place.
use Rattle.std.proofs.Common.{◌≡◌, ℕ, ◌+◌, ◌<◌, ◌≤◌, List, [], ◌∷◌, ◌++◌, length, get_or, take, Some, None, Option, sym, refl, ap, ◌∙◌, ap₂, append-nil, arith, length-append, length-take, get_or-take, Bor, Iter}
use Rattle.std.proofs.iter.Yields.{fronts}
use Rattle.std.proofs.lemmas.Iterator.{YieldsList, YieldsList-from_slice, YieldsList-from_zip, zips}
use Rattle.std.proofs.lemmas.Iterator.Consumers.{YieldsList-from_enumerate, YieldsList-turn, YieldsList-end}
use Rattle.std.proofs.lemmas.List.{take_more, get_or_read, map-append}
use Rattle.std.proofs.lemmas.List.FromFn.{length-enumerate_from, get_or-enumerate_from}
use Rattle.std.proofs.lemmas.Slice.Zip.{length-zip, get_or-zip}
use Rattle.std.specs.Iterator.{Yields}
use Rattle.std.specs.Iterator.Adapters.{enumerate_source, enumerate_count, enumerate_steps, zip_first, zip_second}
use Rattle.std.specs.declared.iter.Enumerate.{Enumerate}
use Rattle.std.specs.declared.iter.Zip.{Zip}
use Rattle.std.specs.List.{enumerate_from, zip}
use Rattle.std.specs.Slice.Iter.{iter_rest}
use Rattle.scale.specs.Laws.{Scaled}
use Rattle.semantics.specs.Rules.{Rule}
use Rattle.semantics.specs.Plain.{weigh, grade_in, grade_of, weighted}
use Rattle.semantics.specs.declared.rule.PlainRule.{PlainRule}
use Rattle.rulebase.specs.Reference.{held}
use Rattle.rulebase.specs.Tables.{count_of, place_of, pairs_of, places_of}
use Rattle.rulebase.specs.declared.rule.Rule.{Rule as Record}
use Rattle.rulebase.proofs.Places.{place_grade, length_pairs, get_or-pairs, places_are}

-- the records and the rows of the places, each with its number
abbrev pub numbered : {A B : Type 0} → List A → List B → List (ℕ × (A × B))
numbered rules rows = enumerate_from 0 (zip (take (count_of rules rows) rules) (take (count_of rules rows) rows))

module _ {A B : Type 0} (rules : List A) (rows : List B) where
  abbrev n : ℕ
  n = count_of rules rows

  length-fronts : length (zip (take n rules) (take n rows)) ≡ n
  length-fronts = omega (arith, length-zip (take n rules) (take n rows), length-take n rules, length-take n rows)

  pub length-numbered : length (numbered rules rows) ≡ n
  length-numbered = length-enumerate_from 0 (zip (take n rules) (take n rows)) ∙ length-fronts

  pub get_or-numbered : (k : ℕ) (d : ℕ × (A × B)) → k < n → get_or (numbered rules rows) k d ≡ (k, (get_or rules k d.1.0, get_or rows k d.1.1))
  get_or-numbered k d l =
      get_or-enumerate_from 0 (zip (take n rules) (take n rows)) k d (omega (arith, length-fronts))
      ∙ ap₂ (λ j p. (j, p)) (omega arith)
      (get_or-zip (take n rules) (take n rows) k d.1 (omega (arith, length-take n rules)) (omega (arith, length-take n rows))
      ∙ ap₂ (λ r x. (r, x)) (get_or-take n rules k d.1.0 l) (get_or-take n rows k d.1.1 l))

  -- a loop over them, which has yielded ys
  module _ (it : Enumerate (Zip (Iter A) (Iter B))) (first : iter_rest (zip_first (enumerate_source it)) ≡ take n rules) (second : iter_rest (zip_second (enumerate_source it)) ≡ take n rows) (begins : enumerate_count it ≡ 0) where
    abbrev loop_steps : Enumerate (Zip (Iter A) (Iter B)) → Option (ℕ × (Bor A × Bor B)) → Enumerate (Zip (Iter A) (Iter B)) → Type 0
    loop_steps = enumerate_steps (zips fronts fronts)

    loop_yields : YieldsList loop_steps (λ p. (p.0, (p.1.0.now, p.1.1.now))) it (numbered rules rows)
    loop_yields = YieldsList-from_enumerate (YieldsList-from_zip (YieldsList-from_slice (take n rules) first) (YieldsList-from_slice (take n rows) second)) begins

    module _ (ys : List (ℕ × (Bor A × Bor B))) (t u : Enumerate (Zip (Iter A) (Iter B))) (y : Yields loop_steps it ys t) (r : Option (ℕ × (Bor A × Bor B))) (goes : loop_steps t r u) where
      -- the place that it has come to
      pub loop_turn : (p : ℕ × (Bor A × Bor B)) → r ≡ Some p → (p.0 ≡ length ys) × (length ys < n) × ((d : A) → p.1.0.now ≡ get_or rules (length ys) d) × ((d : B) → p.1.1.now ≡ get_or rows (length ys) d)
      loop_turn p e =
          let turn = YieldsList-turn loop_yields ys t y r u p e goes in
          let long = length-numbered in
          let inside : length ys < n = omega (arith, turn.0) in
          let is = turn.1 ∙ get_or-numbered (length ys) _ inside in
          (ap (λ q. q.0) is, inside, get_or_read rules (length ys) p.1.0.now (omega arith) (ap (λ q. q.1.0) is), get_or_read rows (length ys) p.1.1.now (omega arith) (ap (λ q. q.1.1) is))

      pub loop_end : r ≡ None → length ys ≡ n
      loop_end e = (YieldsList-end loop_yields ys t y r u e goes).1 ∙ length-numbered

pub held-append : {G : Type 0} (ps qs : List (Option (Rule G))) → held (ps ++ qs) ≡ held ps ++ held qs
held-append [] qs = refl
held-append (None ∷ ps) qs = held-append ps qs
held-append (Some r ∷ ps) qs = ap (λ P. r ∷ P) (held-append ps qs)

module _ {G R : Type 0} (s : Scaled G R) where
  module _ (rules : List Record) (rows : List R) where
    -- the rules read are those held in the places below i
    pub record Copied (i : ℕ) (out : List PlainRule) : Type 0 where
      pub few : length out ≤ i
      pub same : weighted s out rows ≡ held (take i (pairs_of s rules rows))

    pub copied_none : Copied 0 []
    unfolding weighted
    copied_none = record { few = omega arith; same = refl }

    module _ (i : ℕ) (out : List PlainRule) (inv : Copied i out) (l : i < count_of rules rows) (r : Record) (x : R) (first : (d : Record) → r ≡ get_or rules i d) (second : (d : R) → x ≡ get_or rows i d) where
      held_more : held (take (i + 1) (pairs_of s rules rows)) ≡ held (take i (pairs_of s rules rows)) ++ held (place_of s r x ∷ [])
      held_more =
          ap held (take_more (pairs_of s rules rows) i None (let long = length_pairs s rules rows in omega arith))
          ∙ held-append (take i (pairs_of s rules rows)) (get_or (pairs_of s rules rows) i None ∷ [])
          ∙ ap (λ p. held (take i (pairs_of s rules rows)) ++ held (p ∷ [])) (get_or-pairs s rules rows i r x None (omega arith) (omega arith) ∙ ap₂ (place_of s) (sym (first r)) (sym (second x)))

      pub copied_more : (q : PlainRule) (g : G) (out' : List PlainRule) → out' ≡ out ++ q ∷ [] → q.place ≡ i → Some (weigh q g) ≡ place_of s r x → Copied (i + 1) out'
      unfolding weighted
      copied_more q g out' pushed at e =
          let is : grade_of s rows q ≡ g = ap (grade_in s rows) at ∙ ap s.read_of (sym (second _)) ∙ sym (place_grade s r x (weigh q g) e) in
          record {
            few = let few = inv.few in omega (arith, ap length pushed, length-append {A = PlainRule} out (q ∷ []));
            same =
                ap (λ o. weighted s o rows) pushed
                ∙ map-append (λ (p : PlainRule). weigh p (grade_of s rows p)) out (q ∷ [])
                ∙ ap₂ (λ P p. P ++ held (p ∷ [])) inv.same (ap (λ (h : G). Some (weigh q h)) is ∙ e)
                ∙ sym held_more;
          }

      pub copied_past : None ≡ place_of s r x → Copied (i + 1) out
      copied_past e = record {
        few = let few = inv.few in omega arith;
        same = inv.same ∙ sym (append-nil _) ∙ ap (λ p. held (take i (pairs_of s rules rows)) ++ held (p ∷ [])) e ∙ sym held_more;
      }

    pub copied_all : (i : ℕ) (out : List PlainRule) → i ≡ count_of rules rows → Copied i out → weighted s out rows ≡ held (places_of s rules rows)
    copied_all i out e inv = inv.same ∙ ap (λ n. held (take n (pairs_of s rules rows))) e ∙ sym (ap held (places_are s rules rows))
