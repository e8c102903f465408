-- A text for each grade.
use Rattle.std.specs.Prelude.{◌≡◌, ℕ, ◌≤◌, ◌⊎◌, List, length, Some, None, Option, ◌≢◌}
use Rattle.std.specs.List.{All}

-- the byte is a small letter or a digit
abbrev pub Plain : ℕ → Type 0
Plain b = ((97 ≤ b) × (b ≤ 122)) ⊎ ((48 ≤ b) × (b ≤ 57))

-- Each grade has a text of 1 to 16 plain bytes. A parse of a grade's text gives the grade, and all other bytes give none.
pub record Texts (G : Type 0) : Type 0 where
  pub of : G → List ℕ
  pub parse : List ℕ → Option G
  pub some : (g : G) → 1 ≤ length (of g)
  pub short : (g : G) → length (of g) ≤ 16
  pub plain : (g : G) → All Plain (of g)
  pub reads : (g : G) → parse (of g) ≡ Some g
  pub only : (bytes : List ℕ) (g : G) → parse bytes ≡ Some g → bytes ≡ of g

-- the answer is the grade whose text the bytes are, or none where they are the text of none
abbrev pub Parsed : {G : Type 0} → (G → List ℕ) → List ℕ → Option G → Type 0
Parsed {G} of bytes None = (g : G) → bytes ≢ of g
Parsed of bytes (Some g) = bytes ≡ of g
