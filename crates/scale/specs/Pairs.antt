-- Pairs of grades in the order of a dictionary.
use Rattle.std.specs.Prelude.{◌≡◌, Bool, true, not, ◌&&◌, ◌||◌, ◌⊎◌}
use Rattle.std.proofs.Common.{ap, inl, inr, ⊎_elim}
use Rattle.std.proofs.lemmas.Bool.{and_from, and_parts, or_left, or_right, or_cases, cases_Bool, not_from_false, not-true, both_ways}
use Rattle.scale.specs.Laws.{Order, Scaled}
use Rattle.scale.specs.declared.pair.Pair.{Pair}

-- the pair of two grades
abbrev pub pair : {G H : Type 0} → G → H → Pair G H
pair g h = record { first = g; second = h }

module _ {G H : Type 0} (a : Order G) (b : Order H) where
  -- the first grades decide, and where they are equal, the second ones
  abbrev pub pair_at_most : Pair G H → Pair G H → Bool
  pair_at_most x y = a.at_most x.first y.first && (not (a.at_most y.first x.first) || b.at_most x.second y.second)

  -- of two pairs in order the first grades are in order
  pub first_at_most : (x y : Pair G H) → pair_at_most x y ≡ true → a.at_most x.first y.first ≡ true
  first_at_most x y p = (and_parts _ _ p).0

  -- and the second ones, where the first ones are so both ways
  pub second_at_most : (x y : Pair G H) → pair_at_most x y ≡ true → a.at_most y.first x.first ≡ true → b.at_most x.second y.second ≡ true
  second_at_most x y p h = ⊎_elim (λ n. absurd (both_ways _ (not-true _ n) h)) (λ s. s) (or_cases _ _ (and_parts _ _ p).1)

  -- and back
  pub pair_at_most_lem : (x y : Pair G H) → a.at_most x.first y.first ≡ true → (a.at_most y.first x.first ≡ true → b.at_most x.second y.second ≡ true) → pair_at_most x y ≡ true
  pair_at_most_lem x y p h = and_from _ _ p (⊎_elim (λ t. or_right _ _ (h t)) (λ f. or_left _ _ (not_from_false _ f)) (cases_Bool (a.at_most y.first x.first)))

  -- the laws of the order
  pub pair-total : (x y : Pair G H) → a.at_most x.first y.first ≡ true → (pair_at_most x y ≡ true) ⊎ (pair_at_most y x ≡ true)
  pair-total x y p =
      ⊎_elim
      (λ q. ⊎_elim (λ s. inl (pair_at_most_lem x y p (λ _. s))) (λ s. inr (pair_at_most_lem y x q (λ _. s))) (b.total x.second y.second))
      (λ f. inl (pair_at_most_lem x y p (λ t. absurd (both_ways _ f t))))
      (cases_Bool (a.at_most y.first x.first))

  pub pair-transitive : (x y z : Pair G H) → pair_at_most x y ≡ true → pair_at_most y z ≡ true → pair_at_most x z ≡ true
  pair-transitive x y z p q =
      let p1 = first_at_most x y p in
      let q1 = first_at_most y z q in
      pair_at_most_lem x z (a.transitive _ _ _ p1 q1)
      (λ h. b.transitive _ _ _ (second_at_most x y p (a.transitive _ _ _ q1 h)) (second_at_most y z q (a.transitive _ _ _ h p1)))

  pub pair-antisymmetric : (x y : Pair G H) → pair_at_most x y ≡ true → pair_at_most y x ≡ true → x ≡ y
  pair-antisymmetric x y p q =
      let p1 = first_at_most x y p in
      let q1 = first_at_most y x q in
      let e = a.antisymmetric _ _ p1 q1 in
      let f = b.antisymmetric _ _ (second_at_most x y p q1) (second_at_most y x q p1) in
      λ i. pair (e i) (f i)

  -- the order of pairs
  abbrev pub pair_order : Order (Pair G H)
  pair_order = record {
    at_most = pair_at_most;
    bottom = pair a.bottom b.bottom;
    top = pair a.top b.top;
    total = λ x y. ⊎_elim (pair-total x y) (λ q. ⊎_elim inr inl (pair-total y x q)) (a.total x.first y.first);
    transitive = pair-transitive;
    antisymmetric = pair-antisymmetric;
    least = λ x. pair_at_most_lem (pair a.bottom b.bottom) x (a.least x.first) (λ _. b.least x.second);
    greatest = λ x. pair_at_most_lem x (pair a.top b.top) (a.greatest x.first) (λ _. b.greatest x.second);
    apart = λ e. a.apart (ap (λ p. p.first) e);
  }

-- pairs as a scale; the row of a pair is the pair of the rows
abbrev pub pairs : {G H R Q : Type 0} → Scaled G R → Scaled H Q → Scaled (Pair G H) (R × Q)
pairs a b = record {
  order = pair_order a.order b.order;
  row_of = λ x. (a.row_of x.first, b.row_of x.second);
  read_of = λ r. pair (a.read_of r.0) (b.read_of r.1);
  reads = λ x i. pair (a.reads x.first i) (b.reads x.second i);
}
