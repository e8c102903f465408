-- An order of grades that is given by a number for each grade.
use Rattle.std.specs.Prelude.{◌≡◌, ℕ, ◌<◌, ◌≤◌, nat_le}
use Rattle.std.proofs.Common.{ap, inl, inr, ⊎_elim, arith}
use Rattle.std.proofs.lemmas.Bool.{leb-true, le-leb, cases_lt}
use Rattle.scale.specs.Laws.{Order}

-- Grades of which no two have the same rank, the bottom's the least and the top's the greatest.
module _ {G : Type 0} (rank : G → ℕ) (bot top : G) (same : (x y : G) → rank x ≡ rank y → x ≡ y) (lowest : (x : G) → rank bot ≤ rank x) (highest : (x : G) → rank x ≤ rank top) (two : rank bot < rank top) where
  -- one grade is at most another where its rank is
  abbrev pub ranked : Order G
  ranked = record {
    at_most = λ x y. nat_le (rank x) (rank y);
    bottom = bot;
    top = top;
    total = λ x y. ⊎_elim (λ h. inl (le-leb (rank x) (rank y) (omega arith))) (λ h. inr (le-leb (rank y) (rank x) h)) (cases_lt (rank x) (rank y));
    transitive = λ x y z p q. le-leb (rank x) (rank z) (omega (arith, leb-true (rank x) (rank y) p, leb-true (rank y) (rank z) q));
    antisymmetric = λ x y p q. same x y (omega (arith, leb-true (rank x) (rank y) p, leb-true (rank y) (rank x) q));
    least = λ x. le-leb (rank bot) (rank x) (lowest x);
    greatest = λ x. le-leb (rank x) (rank top) (highest x);
    apart = λ e. omega (arith, ap rank e, two);
  }
