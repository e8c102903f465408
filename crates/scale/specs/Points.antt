-- Points as a scale.
use Rattle.std.specs.Prelude.{◌≡◌, ℕ, ◌<◌, ◌≤◌, cond, Ok, Err, Result, nat_le}
use mathlib.Core.HLevel.{is_prop→PathP}
use Rattle.std.proofs.Math.Bridge.{le_prop}
use Rattle.std.proofs.Common.{arith, lit≤, lit<}
use Rattle.std.proofs.lemmas.Bool.{leb-true, le-leb, cond-true, cond_both}
use Rattle.scale.specs.Laws.{Scaled}
use Rattle.scale.specs.Ranked.{ranked}
use Rattle.scale.specs.Refusals.{number_of}
use Rattle.scale.specs.declared.point.Point.{Point}
use Rattle.scale.specs.declared.refusal.Refusal.{Refusal}
use Rattle.scale.specs.declared.refusal.Refusal.TheVariants.{PointOutOfRange}

-- what a number gives: up to 100 the point of that value, above it the refusal 16
abbrev pub PointFrom : ℕ → Result Point Refusal → Type 0
PointFrom number (Ok p) = (number ≤ 100) × (p.value ≡ number)
PointFrom number (Err e) = (100 < number) × (e ≡ PointOutOfRange) × (number_of e ≡ 16)

-- the point of a value
abbrev pub point : (n : ℕ) → n ≤ 100 → Point
point n h = record { value = n; ok = h }

-- the value that a row stands for: a row above 100 reads as 0
abbrev pub value_read : ℕ → ℕ
value_read n = cond (nat_le n 100) n 0

-- every row reads as a value of a point
pub value_read-le : (n : ℕ) → value_read n ≤ 100
value_read-le n = cond_both (nat_le n 100) n 0 (λ m. m ≤ 100) (λ e. leb-true n 100 e) (λ e. lit≤ tt)

-- the point that a row stands for
abbrev pub point_read : ℕ → Point
point_read n = point (value_read n) (value_read-le n)

-- points of the same value are the same
pub same_point : (p q : Point) → p.value ≡ q.value → p ≡ q
same_point p q e = λ i. record { value = e i; ok = is_prop→PathP (λ k. e k ≤ 100) (λ k. le_prop) p.ok q.ok i }

-- a point's row reads as the point
pub point_read-value : (p : Point) → point_read p.value ≡ p
point_read-value p = same_point (point_read p.value) p (cond-true (nat_le p.value 100) p.value 0 (le-leb p.value 100 p.ok))

-- points by their values; a point's row is its value
abbrev pub points : Scaled Point ℕ
points = record {
  order = ranked (λ p. p.value) (point 0 (lit≤ tt)) (point 100 (lit≤ tt)) same_point (λ x. omega arith) (λ x. x.ok) (lit< tt);
  row_of = λ p. p.value;
  read_of = point_read;
  reads = point_read-value;
}
