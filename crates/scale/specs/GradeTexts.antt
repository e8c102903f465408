-- The text that a value holds.
use Rattle.std.specs.Prelude.{ℕ, List}
use Rattle.scale.specs.declared.text.GradeText.{GradeText}

-- the bytes of the text
abbrev pub text_of : GradeText → List ℕ
text_of t = t.text.bytes
