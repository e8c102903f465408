-- What two tables hold, place by place.
use Rattle.std.proofs.Common.{◌≡◌, ℕ, zero, suc, ◌<◌, ◌≤◌, min, Bool, true, false, cond, List, [], ◌∷◌, length, get_or, take, set, Some, None, Option, sym, refl, ap, ◌∙◌, arith, length-take, get_or-take}
use Rattle.std.proofs.lemmas.List.{take_min, get_or_past, get_or-map, length-map}
use Rattle.std.proofs.lemmas.Slice.Zip.{length-zip, get_or-zip}
use Rattle.std.specs.List.{zip}
use Rattle.scale.specs.Laws.{Scaled}
use Rattle.semantics.specs.Rules.{Rule}
use Rattle.rulebase.specs.declared.rule.Rule.{Rule as Record}
use Rattle.rulebase.specs.Tables.{most_places, count_of, holds, place_of, pairs_of, places_of}

-- the front of a list with one entry written
pub take_of_set : {A : Type 0} (n : ℕ) (xs : List A) (k : ℕ) (y : A) → take n (set xs k y) ≡ set (take n xs) k y
take_of_set zero xs k y = refl
take_of_set (suc n) [] k y = refl
take_of_set (suc n) (x ∷ xs) zero y = refl
take_of_set (suc n) (x ∷ xs) (suc k) y = ap (λ l. x ∷ l) (take_of_set n xs k y)

module _ {G R : Type 0} (s : Scaled G R) where
  -- the grade of a rule that a place holds is that of its row
  pub place_grade : (r : Record) (x : R) (q : Rule G) → Some q ≡ place_of s r x → q.grade ≡ s.read_of x
  place_grade r x q e = go (holds s r x) e
    where
      go : (b : Bool) → Some q ≡ cond b (Some (record { head = r.head; pos = r.pos; neg = r.neg; grade = s.read_of x })) None → q.grade ≡ s.read_of x
      go true d = cc
      go false d = grind arith

  pub length_pairs : (rules : List Record) (rows : List R) → length (pairs_of s rules rows) ≡ min (length rules) (length rows)
  unfolding pairs_of
  length_pairs rules rows = length-map (zip rules rows) (λ p. place_of s p.0 p.1) ∙ length-zip rules rows

  pub get_or-pairs : (rules : List Record) (rows : List R) (k : ℕ) (r : Record) (x : R) (d : Option (Rule G)) → k < length rules → k < length rows → get_or (pairs_of s rules rows) k d ≡ place_of s (get_or rules k r) (get_or rows k x)
  unfolding pairs_of
  get_or-pairs rules rows k r x d p q = get_or-map (λ p. place_of s p.0 p.1) (zip rules rows) k (r, x) d (omega (arith, length-zip rules rows)) ∙ ap (λ p. place_of s p.0 p.1) (get_or-zip rules rows k (r, x) p q)

  pub set-pairs : (rules : List Record) (rows : List R) (k : ℕ) (r : Record) (x : R) → pairs_of s (set rules k r) (set rows k x) ≡ set (pairs_of s rules rows) k (place_of s r x)
  unfolding pairs_of
  set-pairs [] rows k r x = refl
  set-pairs (a ∷ rules) [] zero r x = refl
  set-pairs (a ∷ rules) [] (suc k) r x = refl
  set-pairs (a ∷ rules) (b ∷ rows) zero r x = refl
  set-pairs (a ∷ rules) (b ∷ rows) (suc k) r x = ap (λ l. place_of s a b ∷ l) (set-pairs rules rows k r x)

  -- the front of the pairs is the pairs of the fronts
  pub take-pairs : (n : ℕ) (rules : List Record) (rows : List R) → take n (pairs_of s rules rows) ≡ pairs_of s (take n rules) (take n rows)
  unfolding pairs_of
  take-pairs zero rules rows = refl
  take-pairs (suc n) [] rows = refl
  take-pairs (suc n) (r ∷ rules) [] = refl
  take-pairs (suc n) (r ∷ rules) (x ∷ rows) = ap (λ l. place_of s r x ∷ l) (take-pairs n rules rows)

  pub length-places : (rules : List Record) (rows : List R) → length (places_of s rules rows) ≡ count_of rules rows
  unfolding places_of
  length-places rules rows = let h = length_pairs rules rows in let k = length-take most_places (pairs_of s rules rows) in omega arith

  pub get_or-places : (rules : List Record) (rows : List R) (k : ℕ) (r : Record) (x : R) (d : Option (Rule G)) → k < count_of rules rows → get_or (places_of s rules rows) k d ≡ place_of s (get_or rules k r) (get_or rows k x)
  unfolding places_of
  get_or-places rules rows k r x d p = get_or-take most_places (pairs_of s rules rows) k d (omega arith) ∙ get_or-pairs rules rows k r x d (omega arith) (omega arith)

  -- past the places there is nothing
  pub past_places : (rules : List Record) (rows : List R) (k : ℕ) (d : Option (Rule G)) → count_of rules rows ≤ k → get_or (places_of s rules rows) k d ≡ d
  past_places rules rows k d p = get_or_past (places_of s rules rows) k d (omega (arith, length-places rules rows))

  pub set-places : (rules : List Record) (rows : List R) (k : ℕ) (r : Record) (x : R) → places_of s (set rules k r) (set rows k x) ≡ set (places_of s rules rows) k (place_of s r x)
  unfolding places_of
  set-places rules rows k r x = ap (take most_places) (set-pairs rules rows k r x) ∙ take_of_set most_places (pairs_of s rules rows) k (place_of s r x)

  -- the places are the first pairs, as many as there are places
  pub places_are : (rules : List Record) (rows : List R) → places_of s rules rows ≡ take (count_of rules rows) (pairs_of s rules rows)
  unfolding places_of
  places_are rules rows = let h = length_pairs rules rows in sym (take_min most_places (pairs_of s rules rows)) ∙ ap (λ n. take n (pairs_of s rules rows)) (omega arith)
