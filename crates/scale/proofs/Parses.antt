-- What a parse answers.
use Rattle.std.proofs.Common.{◌≡◌, ℕ, List, Some, None, Option, sym, refl, ap, ◌∙◌}
use Rattle.scale.specs.Texts.{Texts, Parsed}

module _ {G : Type 0} (t : Texts G) where
  -- bytes that are a grade's text give the grade
  pub parse_text : (bytes : List ℕ) (g : G) → bytes ≡ t.of g → Some g ≡ t.parse bytes
  parse_text bytes g e = sym (ap t.parse e ∙ t.reads g)

  none_if : (bytes : List ℕ) → ((g : G) → bytes ≡ t.of g → ⊥) → (r : Option G) → t.parse bytes ≡ r → None ≡ r
  none_if bytes h None e = refl
  none_if bytes h (Some g) e = absurd (h g (t.only bytes g e))

  -- bytes that are no grade's text give none
  pub parse_other : (bytes : List ℕ) → ((g : G) → bytes ≡ t.of g → ⊥) → None ≡ t.parse bytes
  parse_other bytes h = none_if bytes h (t.parse bytes) refl

  -- an answer that says which grade's text the bytes are, or that they are none's, is what the parse gives
  pub parsed_is : (bytes : List ℕ) (r : Option G) → Parsed t.of bytes r → r ≡ t.parse bytes
  parsed_is bytes None h = parse_other bytes h
  parsed_is bytes (Some g) e = parse_text bytes g e
