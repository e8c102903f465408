-- The texts of the words.
use Rattle.std.specs.Prelude.{◌≡◌, ℕ, ◌≤◌, Bool, true, cond, ◌&&◌, List, [], ◌∷◌, length, codes, ◌==◌, nat_le, slice_index, refl}
use Rattle.std.proofs.Common.{sym, ap, ◌∙◌, inl, arith, lit≤}
use Rattle.std.specs.List.{All}
use Rattle.std.proofs.lemmas.List.Elements.{All-nil, All-cons}
use Rattle.std.proofs.lemmas.Bool.{and_parts, leb-true}
use Rattle.scale.specs.Matches.{matching, matching-only, matching-reads}
use Rattle.scale.specs.Texts.{Texts, Plain}
use Rattle.scale.specs.Words.{rank, rank-le, word_at, word_at-rank}
use Rattle.scale.specs.declared.word.Word.{Word}
use Rattle.scale.specs.declared.word.Word.TheVariants.{Nil, Faint, Fair, Firm, Sure}

-- the text of each word
abbrev pub word_text : Word → List ℕ
word_text Nil = codes "none"
word_text Faint = codes "faint"
word_text Fair = codes "fair"
word_text Firm = codes "firm"
word_text Sure = codes "sure"

-- the word of a text, told by the first and the fourth byte
abbrev pub word_back : List ℕ → Word
word_back t = cond (slice_index t 0 == 110) Nil (cond (slice_index t 0 == 115) Sure (cond (slice_index t 3 == 110) Faint (cond (slice_index t 3 == 114) Fair Firm)))

-- no two words have the same text
pub word_back_text : (w : Word) → word_back (word_text w) ≡ w
word_back_text Nil = refl
word_back_text Faint = refl
word_back_text Fair = refl
word_back_text Firm = refl
word_back_text Sure = refl

pub same_word : (v w : Word) → word_text v ≡ word_text w → v ≡ w
same_word v w e = sym (word_back_text v) ∙ ap word_back e ∙ word_back_text w

-- a text has 1 to 16 bytes
pub word_some : (w : Word) → 1 ≤ length (word_text w)
word_some Nil = lit≤ tt
word_some Faint = lit≤ tt
word_some Fair = lit≤ tt
word_some Firm = lit≤ tt
word_some Sure = lit≤ tt

pub word_short : (w : Word) → length (word_text w) ≤ 16
word_short Nil = lit≤ tt
word_short Faint = lit≤ tt
word_short Fair = lit≤ tt
word_short Firm = lit≤ tt
word_short Sure = lit≤ tt

-- every byte is a small letter
abbrev pub letters : List ℕ → Bool
letters [] = true
letters (b ∷ bs) = (nat_le 97 b && nat_le b 122) && letters bs

pub letters-plain : (bs : List ℕ) → letters bs ≡ true → All Plain bs
letters-plain [] e = All-nil Plain
letters-plain (b ∷ bs) e =
    let parts = and_parts (nat_le 97 b && nat_le b 122) (letters bs) e in
    let ends = and_parts (nat_le 97 b) (nat_le b 122) parts.0 in
    All-cons Plain b bs (inl (leb-true 97 b ends.0, leb-true b 122 ends.1)) (letters-plain bs parts.1)

-- a text has plain bytes
pub word_plain : (w : Word) → All Plain (word_text w)
word_plain Nil = letters-plain (codes "none") refl
word_plain Faint = letters-plain (codes "faint") refl
word_plain Fair = letters-plain (codes "fair") refl
word_plain Firm = letters-plain (codes "firm") refl
word_plain Sure = letters-plain (codes "sure") refl

-- the words with their texts; bytes are parsed by comparing them with the five texts
abbrev pub word_texts : Texts Word
word_texts = record {
  of = word_text;
  parse = matching word_text word_at 5;
  some = word_some;
  short = word_short;
  plain = word_plain;
  reads = λ w. matching-reads word_text word_at same_word 5 (rank w) w (omega (arith, rank-le w)) (word_at-rank w);
  only = matching-only word_text word_at 5;
}
