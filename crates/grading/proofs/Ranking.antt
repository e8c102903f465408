-- Ranks keep the order of the grades.
use Rattle.std.proofs.Common.{◌≡◌, ℕ, zero, suc, ◌+◌, ◌<◌, ◌≤◌, Bool, true, false, cond, not, List, [], ◌∷◌, map, length, get_or, set, filter, sum, sym, refl, ap, ◌∙◌, inl, inr, ⊎_elim, arith}
use Rattle.std.specs.List.{Contains, count_by}
use Rattle.std.proofs.lemmas.Simd.{map-map}
use Rattle.std.proofs.lemmas.List.{get_or-map, map-set, set-get_or, length-map, ext_get_or}
use Rattle.std.proofs.lemmas.List.Edits.{fill_by_more}
use Rattle.std.proofs.lemmas.List.Sums.{sum_by-le-sum_by, sum_by-cons, sum-map, count_by-le-length, length-filter}
use Rattle.std.proofs.lemmas.Bool.{cases_Bool, cond-true, cond-false, not-true, not_from_false, both_ways}
use Rattle.scale.specs.Laws.{Order, Scaled}
use Rattle.semantics.specs.Rules.{Rule, Among}
use Rattle.semantics.specs.Plain.{weigh, grade_in, grade_of, weighted, by_place}
use Rattle.semantics.specs.declared.rule.PlainRule.{PlainRule}
use Rattle.semantics.proofs.Cuts.{le_refl, other_way}
use Rattle.grading.specs.Ranks.{grades, rank_among, ranks, ranks_of}

-- ---- how many pass a test

module _ {X : Type 0} where
  -- 1 where the test passes, else 0
  abbrev one : (X → Bool) → X → ℕ
  one p x = cond (p x) 1 0

  count_by-map : {Y : Type 0} (p : X → Bool) (f : Y → X) (ys : List Y) → count_by p (map f ys) ≡ count_by (λ y. p (f y)) ys
  count_by-map p f ys = sym (sum-map (one p) (map f ys)) ∙ ap sum (map-map (one p) f ys) ∙ sum-map (λ y. one p (f y)) ys

  module _ (p q : X → Bool) (more : (x : X) → p x ≡ true → q x ≡ true) where
    each : (x : X) → one p x ≤ one q x
    each x = go (p x) (q x) (more x)
      where
        go : (a b : Bool) → (a ≡ true → b ≡ true) → cond a 1 0 ≤ cond b 1 0
        go true true f = omega arith
        go true false f = absurd (both_ways false refl (f refl))
        go false b f = omega arith

    -- a test that passes wherever another does, and once more, passes more often
    count_less : (xs : List X) (x : X) → Among x xs → p x ≡ false → q x ≡ true → count_by p xs < count_by q xs
    count_less [] x i u v = absurd i
    count_less (y ∷ xs) x (inl e) u v =
        let left : one p y ≡ 0 = cond-false _ _ _ (ap p (sym e) ∙ u) in
        let right : one q y ≡ 1 = cond-true _ _ _ (ap q (sym e) ∙ v) in
        omega (arith, left, right, sum_by-le-sum_by (one p) (one q) xs each, sum_by-cons (one p) y xs, sum_by-cons (one q) y xs)
    count_less (y ∷ xs) x (inr i) u v = omega (arith, each y, count_less xs x i u v, sum_by-cons (one p) y xs, sum_by-cons (one q) y xs)

-- ---- ranks

module _ {G : Type 0} (o : Order G) (gs : List G) where
  rank_is_count : (g : G) → rank_among o gs g ≡ count_by (λ x. not (o.at_most g x)) gs
  unfolding rank_among
  rank_is_count g = length-filter (λ x. not (o.at_most g x)) gs

  -- of two grades the greater has the greater rank
  pub rank-keeps : (g h : G) → Among h gs → rank_among o gs g ≤ rank_among o gs h → o.at_most g h ≡ true
  rank-keeps g h i l =
      ⊎_elim (λ t. t)
      (λ above. absurd (omega (
        arith,
        l,
        rank_is_count g,
        rank_is_count h,
        count_less (λ x. not (o.at_most h x)) (λ x. not (o.at_most g x))
            (λ x t. not_from_false _ (⊎_elim (λ u. absurd (both_ways _ (not-true _ t) (o.transitive h g x (other_way o g h above) u))) (λ u. u) (cases_Bool (o.at_most g x))))
            gs h i (ap not (le_refl o h)) (not_from_false _ above),
      )))
      (cases_Bool (o.at_most g h))

  pub rank-le : (g : G) → rank_among o gs g ≤ length gs
  rank-le g = omega (arith, rank_is_count g, count_by-le-length (λ x. not (o.at_most g x)) gs)

-- the rank of a grade is the number of rules whose grades it is not at most
pub rank_counted : {G R : Type 0} (s : Scaled G R) (rows : List R) (rules : List PlainRule) (g : G) → rank_among s.order (grades s rows rules) g ≡ length (filter (λ r. not (s.order.at_most g (grade_of s rows r))) rules)
rank_counted s rows rules g =
    rank_is_count s.order (grades s rows rules) g
    ∙ count_by-map (λ x. not (s.order.at_most g x)) (grade_of s rows) rules
    ∙ sym (length-filter (λ r. not (s.order.at_most g (grade_of s rows r))) rules)

-- ---- a rule that gets its rank, and keeps all else

module _ {G R : Type 0} (s : Scaled G R) (rows : List R) where
  grade_at_place : (rules : List PlainRule) (k : ℕ) (q : PlainRule) → k < length rules → get_or rules k q ≡ q → Among (grade_of s rows q) (grades s rows rules)
  grade_at_place [] k q l e = absurd (omega arith)
  grade_at_place (r ∷ rules) zero q l e = inl (ap (grade_of s rows) (sym e))
  grade_at_place (r ∷ rules) (suc k) q l e = inr (grade_at_place rules k q (omega arith) e)

  pub grade_among : (rules : List PlainRule) (q : PlainRule) → Contains rules q → Among (grade_of s rows q) (grades s rows rules)
  grade_among rules q h = grade_at_place rules h.0 q h.1 h.2

  -- rules that differ in their ranks alone have the same grades
  pub same-grades : (xs ys : List PlainRule) → by_place xs ≡ by_place ys → grades s rows xs ≡ grades s rows ys
  same-grades xs ys e =
      let own = λ (r : Rule ℕ). grade_in s rows r.grade in
      sym (map-map own (λ r. weigh r r.place) xs) ∙ ap (map own) e ∙ map-map own (λ r. weigh r r.place) ys

  -- and mean the same
  pub weighted-same : (xs ys : List PlainRule) → by_place xs ≡ by_place ys → weighted s xs rows ≡ weighted s ys rows
  unfolding weighted
  weighted-same xs ys e =
      let own : Rule ℕ → Rule G = λ r. record { head = r.head; pos = r.pos; neg = r.neg; grade = grade_in s rows r.grade } in
      sym (map-map own (λ r. weigh r r.place) xs) ∙ ap (map own) e ∙ map-map own (λ r. weigh r r.place) ys

module _ (rules : List PlainRule) (i : ℕ) (q : PlainRule) (l : i < length rules) where
  pub place_set : (d : PlainRule) → weigh q q.place ≡ weigh (get_or rules i d) (get_or rules i d).place → by_place (set rules i q) ≡ by_place rules
  place_set d e =
      map-set (λ x. weigh x x.place) rules i q
      ∙ ap (set (by_place rules) i) (e ∙ sym (get_or-map (λ x. weigh x x.place) rules i d (weigh d d.place) l))
      ∙ set-get_or (by_place rules) i (weigh d d.place)

  pub ranks-set : (rank : ℕ → ℕ) → ((k : ℕ) → k < i → get_or (ranks rules) k 0 ≡ rank k) → q.rank ≡ rank i → (k : ℕ) → k < i + 1 → get_or (ranks (set rules i q)) k 0 ≡ rank k
  ranks-set rank inv e k h =
      ap (λ (ns : List ℕ). get_or ns k 0) (map-set (λ (x : PlainRule). x.rank) rules i q ∙ ap (set (ranks rules) i) e)
      ∙ fill_by_more rank (ranks rules) i 0 (omega (arith, length-map rules (λ (x : PlainRule). x.rank))) inv k h

-- ---- all ranks

module _ {G R : Type 0} (s : Scaled G R) (rows : List R) (rules : List PlainRule) where
  -- the rank at a place is that of the grade there
  pub ranks_at : (k : ℕ) (q : PlainRule) → k < length rules → q.place ≡ (get_or rules k q).place → get_or (ranks_of s rows rules) k 0 ≡ rank_among s.order (grades s rows rules) (grade_of s rows q)
  unfolding ranks_of
  ranks_at k q l e =
      get_or-map (rank_among s.order (grades s rows rules)) (grades s rows rules) k (grade_of s rows q) 0 (omega (arith, length-map rules (grade_of s rows)))
      ∙ ap (rank_among s.order (grades s rows rules)) (get_or-map (grade_of s rows) rules k q (grade_of s rows q) l ∙ ap (grade_in s rows) (sym e))

  pub length-ranks : length (ranks_of s rows rules) ≡ length rules
  unfolding ranks_of
  length-ranks = length-map (grades s rows rules) (rank_among s.order (grades s rows rules)) ∙ length-map rules (grade_of s rows)

  pub ranks_from : (xs : List ℕ) → length xs ≡ length rules → ((k : ℕ) → k < length rules → get_or xs k 0 ≡ get_or (ranks_of s rows rules) k 0) → xs ≡ ranks_of s rows rules
  ranks_from xs long each = ext_get_or 0 xs (ranks_of s rows rules) (long ∙ sym length-ranks) (λ k l. each k (omega arith))

-- rules that differ in their ranks alone have the same places, and are as many
pub same_length : (xs ys : List PlainRule) → by_place xs ≡ by_place ys → length xs ≡ length ys
same_length xs ys e = sym (length-map xs (λ (q : PlainRule). weigh q q.place)) ∙ ap length e ∙ length-map ys (λ (q : PlainRule). weigh q q.place)

pub same_place : (xs ys : List PlainRule) → by_place xs ≡ by_place ys → (i : ℕ) (q : PlainRule) → i < length xs → q ≡ get_or xs i q → q.place ≡ (get_or ys i q).place
same_place xs ys e i q l read =
    let f : PlainRule → Rule ℕ = λ x. weigh x x.place in
    let d : Rule ℕ = weigh q q.place in
    ap (λ (r : Rule ℕ). r.grade)
    (ap f read ∙ sym (get_or-map f xs i q d l) ∙ ap (λ (rs : List (Rule ℕ)). get_or rs i d) e ∙ get_or-map f ys i q d (omega (arith, same_length xs ys e)))
