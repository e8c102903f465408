-- What a scale of grades is, and how its grades lie in tables and buffers.
use Rattle.std.specs.Prelude.{◌≡◌, Bool, true, cond, not, ◌⊎◌}

-- A total order of grades with a least and a greatest one, which differ.
pub record Order (G : Type 0) : Type 0 where
  pub at_most : G → G → Bool
  pub bottom : G
  pub top : G
  pub total : (x y : G) → (at_most x y ≡ true) ⊎ (at_most y x ≡ true)
  pub transitive : (x y z : G) → at_most x y ≡ true → at_most y z ≡ true → at_most x z ≡ true
  pub antisymmetric : (x y : G) → at_most x y ≡ true → at_most y x ≡ true → x ≡ y
  pub least : (x : G) → at_most bottom x ≡ true
  pub greatest : (x : G) → at_most x top ≡ true
  pub apart : bottom ≡ top → ⊥

-- An order with the row that stands for each grade in a table. Every row reads as some grade, and a grade's row as that grade.
pub record Scaled (G R : Type 0) : Type 0 where
  pub order : Order G
  pub row_of : G → R
  pub read_of : R → G
  pub reads : (x : G) → read_of (row_of x) ≡ x

module _ {G : Type 0} (o : Order G) where
  -- the greater of two grades
  unfoldable pub greater : G → G → G
  greater x y = cond (o.at_most x y) y x

  -- the lesser of two grades
  unfoldable pub lesser : G → G → G
  lesser x y = cond (o.at_most x y) x y

  -- the grade is above the bottom
  unfoldable pub above : G → Bool
  above x = not (o.at_most x o.bottom)
