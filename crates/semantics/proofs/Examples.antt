-- A scale of four grades, and small rule bases worked out by computing: that the definitions say what they should.
use Rattle.std.proofs.Common.{◌≡◌, ℕ, zero, suc, ◌≤◌, leb, List, [], ◌∷◌, sym, refl, ap, ◌∙◌, inl, inr, ⊎_elim, arith}
use Rattle.std.proofs.lemmas.Bool.{leb-true, le-leb, cases_lt}
use Rattle.scale.specs.Laws.{Order, greater, lesser, above}
use Rattle.semantics.specs.Sets.{has, within, disjoint, adding, collect}
use Rattle.semantics.specs.Rules.{Rule, positive, reduct, applicable, breaks, heads, derived, founded, least_below, greatest_of, worst, gives, step, steps, consequences, support, reading, stable, stable_below, stable_sets, objection, least_among, necessity, conflict}
use Rattle.semantics.specs.Counting.{tally}
use Rattle.semantics.specs.Statements.{size}

data Level : Type 0 where
  none low mid high : Level

abbrev rank : Level → ℕ
rank none = 0
rank low = 1
rank mid = 2
rank high = 3

abbrev level : ℕ → Level
level zero = none
level (suc zero) = low
level (suc (suc zero)) = mid
level (suc (suc (suc n))) = high

level-rank : (a : Level) → level (rank a) ≡ a
level-rank none = refl
level-rank low = refl
level-rank mid = refl
level-rank high = refl

rank-high : (a : Level) → rank a ≤ 3
rank-high none = omega arith
rank-high low = omega arith
rank-high mid = omega arith
rank-high high = omega arith

abbrev levels : Order Level
levels = record {
  at_most = λ a b. leb (rank a) (rank b);
  bottom = none;
  top = high;
  total = λ a b. ⊎_elim (λ l. inl (le-leb (rank a) (rank b) (omega (arith, l)))) (λ l. inr (le-leb (rank b) (rank a) l)) (cases_lt (rank a) (rank b));
  transitive = λ a b c p q. le-leb (rank a) (rank c) (omega (arith, leb-true (rank a) (rank b) p, leb-true (rank b) (rank c) q));
  antisymmetric = λ a b p q. let e : rank a ≡ rank b = omega (arith, leb-true (rank a) (rank b) p, leb-true (rank b) (rank a) q) in sym (level-rank a) ∙ (ap level e ∙ level-rank b);
  least = λ a. le-leb 0 (rank a) (omega arith);
  greatest = λ a. le-leb (rank a) 3 (rank-high a);
  apart = λ e. let z : ◌≡◌ {A = ℕ} 0 3 = ap rank e in omega arith;
}

abbrev rule : ℕ → ℕ → ℕ → Level → Rule Level
rule h p n g = record { head = h; pos = p; neg = n; grade = g }

-- 0 for sure; 1 from 0, mid; 2 from 0 and 1, high; 3 from 3, high; 2 from 0, low
abbrev chain : List (Rule Level)
chain = rule 0 0 0 high ∷ rule 1 1 0 mid ∷ rule 2 3 0 high ∷ rule 3 8 0 high ∷ rule 2 1 0 low ∷ []

everything : Unit {0}
unfolding greater lesser above has within disjoint adding collect positive reduct applicable breaks heads derived founded least_below greatest_of worst gives step steps consequences support reading stable stable_below stable_sets objection least_among necessity conflict tally size
everything = tt

grades : (consequences levels 4 chain 0 ≡ high) × (consequences levels 4 chain 1 ≡ mid) × (consequences levels 4 chain 2 ≡ mid) × (consequences levels 4 chain 3 ≡ none)
unfolding everything
grades = (refl, refl, refl, refl)

-- three atoms, so three steps; two do not suffice for the atom 2
settling : (size 4 (support levels 4 (consequences levels 4 chain)) ≡ 3) × (steps levels 4 chain 3 2 ≡ mid) × (steps levels 4 chain 2 2 ≡ low)
unfolding everything
settling = (refl, refl, refl)

necessities : (necessity levels 4 chain 0 ≡ high) × (necessity levels 4 chain 1 ≡ mid) × (necessity levels 4 chain 2 ≡ mid) × (necessity levels 4 chain 3 ≡ none)
unfolding everything
necessities = (refl, refl, refl, refl)

-- objections: to the model, to a set that lacks 2, to one that lacks 1, to the empty set, to one that is not founded
objections : (objection levels 4 chain 7 ≡ none) × (objection levels 4 chain 3 ≡ high) × (objection levels 4 chain 1 ≡ mid) × (objection levels 4 chain 0 ≡ high) × (objection levels 4 chain 15 ≡ high)
unfolding everything
objections = (refl, refl, refl, refl, refl)

-- 0 unless 1, and 1 unless 0
abbrev choice : List (Rule Level)
choice = rule 0 0 2 high ∷ rule 1 0 1 low ∷ []

-- 0 unless 0
abbrev paradox : List (Rule Level)
paradox = rule 0 0 1 low ∷ []

bases : (stable_sets levels 2 choice ≡ 1 ∷ 2 ∷ []) × (conflict levels 2 choice ≡ none) × (stable_sets levels 1 paradox ≡ []) × (conflict levels 1 paradox ≡ low)
unfolding everything
bases = (refl, refl, refl, refl)
