-- The five words as a scale.
use Rattle.std.specs.Prelude.{◌≡◌, ℕ, zero, suc, ◌≤◌, refl}
use Rattle.std.proofs.Common.{sym, ap, ◌∙◌, arith, lit≤, lit<}
use Rattle.scale.specs.Laws.{Scaled}
use Rattle.scale.specs.Ranked.{ranked}
use Rattle.scale.specs.declared.word.Word.{Word}
use Rattle.scale.specs.declared.word.Word.TheVariants.{Nil, Faint, Fair, Firm, Sure}

-- how many words are less
abbrev pub rank : Word → ℕ
rank Nil = 0
rank Faint = 1
rank Fair = 2
rank Firm = 3
rank Sure = 4

-- the word of a rank
abbrev pub word_at : ℕ → Word
word_at zero = Nil
word_at (suc zero) = Faint
word_at (suc (suc zero)) = Fair
word_at (suc (suc (suc zero))) = Firm
word_at (suc (suc (suc (suc n)))) = Sure

-- every word has a rank, and the rank of one word only
pub word_at-rank : (x : Word) → word_at (rank x) ≡ x
word_at-rank Nil = refl
word_at-rank Faint = refl
word_at-rank Fair = refl
word_at-rank Firm = refl
word_at-rank Sure = refl

-- there are no others
pub rank-le : (x : Word) → rank x ≤ 4
rank-le Nil = lit≤ tt
rank-le Faint = lit≤ tt
rank-le Fair = lit≤ tt
rank-le Firm = lit≤ tt
rank-le Sure = lit≤ tt

-- a word is its own row
abbrev pub words : Scaled Word Word
words = record {
  order = ranked rank Nil Sure (λ x y e. sym (word_at-rank x) ∙ ap word_at e ∙ word_at-rank y) (λ x. omega arith) rank-le (lit< tt);
  row_of = λ w. w;
  read_of = λ w. w;
  reads = λ x. refl;
}
