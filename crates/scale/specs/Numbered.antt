-- The texts of the points.
use Rattle.std.specs.Prelude.{◌≡◌, ℕ, ◌≤◌, List, [], length, decimal}
use Rattle.std.proofs.Common.{inr, arith}
use Rattle.std.specs.List.{All}
use Rattle.std.proofs.lemmas.Fmt.{decimal_injective, length-decimal-le, decimal_nonempty, decimal_by_steps}
use Rattle.std.proofs.lemmas.List.Elements.{All-nil, All-cons, All-push}
use Rattle.scale.specs.Points.{same_point, point_read, point_read-value}
use Rattle.scale.specs.Matches.{matching, matching-only, matching-reads}
use Rattle.scale.specs.Texts.{Texts, Plain}
use Rattle.scale.specs.declared.point.Point.{Point}

-- a point's text is its value in decimal, with no leading zero
abbrev pub point_text : Point → List ℕ
point_text p = decimal p.value

-- no two points have the same text
pub same_text : (p q : Point) → point_text p ≡ point_text q → p ≡ q
same_text p q e = let small : p.value ≤ 100 = p.ok in let few : q.value ≤ 100 = q.ok in same_point p q (decimal_injective p.value q.value (omega arith) (omega arith) e)

-- a text has 1 to 16 bytes
pub point-some : (p : Point) → 1 ≤ length (point_text p)
point-some p = let small : p.value ≤ 100 = p.ok in omega (arith, decimal_nonempty p.value (omega arith))

pub point-short : (p : Point) → length (point_text p) ≤ 16
point-short p = let small : p.value ≤ 100 = p.ok in omega (arith, length-decimal-le 3 p.value (omega arith) (omega arith) (omega arith))

-- a text has plain bytes
pub point-plain : (p : Point) → All Plain (point_text p)
point-plain p =
    let small : p.value ≤ 100 = p.ok in
    decimal_by_steps (λ n ds. All Plain ds)
    (λ n h. All-cons Plain _ [] (inr (omega arith, omega arith)) (All-nil Plain))
    (λ n ds h all. All-push Plain ds _ all (inr (omega arith, omega arith)))
    p.value (omega arith)

-- the points with their texts; bytes are parsed by comparing them with the texts of the points 0 to 100
abbrev pub point_texts : Texts Point
point_texts = record {
  of = point_text;
  parse = matching point_text point_read 101;
  some = point-some;
  short = point-short;
  plain = point-plain;
  reads = λ p. let small : p.value ≤ 100 = p.ok in matching-reads point_text point_read same_text 101 p.value p (omega arith) (point_read-value p);
  only = matching-only point_text point_read 101;
}
