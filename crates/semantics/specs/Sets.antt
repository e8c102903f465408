-- Sets of atoms as numbers: atom x has the weight 2 ^ x.
use Rattle.std.specs.Prelude.{◌≡◌, ℕ, zero, suc, ◌+◌, ◌-◌, ◌*◌, ◌/◌, ◌%◌, ◌^◌, ◌<◌, Bool, true, false, cond, ◌==◌, bit_and, bit_or}

-- How many atoms there are. Every other definition, and every lemma, takes the number of atoms as a parameter w.
abbrev pub width : ℕ
width = 64

-- the set A has the atom x
unfoldable pub has : ℕ → ℕ → Bool
has A zero = A % 2 == 1
has A (suc x) = has (A / 2) x

-- every atom of A is one of B
unfoldable pub within : ℕ → ℕ → Bool
within A B = bit_and A B == A

-- no atom is in both A and B
unfoldable pub disjoint : ℕ → ℕ → Bool
disjoint A B = bit_and A B == 0

-- A and the atom x
unfoldable pub adding : ℕ → ℕ → ℕ
adding A x = bit_or A (2 ^ x)

-- all atoms below w but those of A
unfoldable pub others : ℕ → ℕ → ℕ
others w A = (2 ^ w - 1) - A

-- the set of the atoms below n that pass the test
unfoldable pub collect : ℕ → (ℕ → Bool) → ℕ
collect zero p = 0
collect (suc n) p = collect n (λ x. p (suc x)) * 2 + cond (p zero) 1 0

-- The same in words: x is in A, x is not in A, all of A is in B, A and B share no atom.
abbrev pub In : ℕ → ℕ → Type 0
In x A = has A x ≡ true

abbrev pub Out : ℕ → ℕ → Type 0
Out x A = has A x ≡ false

abbrev pub Sub : ℕ → ℕ → Type 0
Sub A B = (x : ℕ) → In x A → In x B

abbrev pub Apart : ℕ → ℕ → Type 0
Apart A B = (x : ℕ) → In x A → Out x B

-- x is the lowest atom of A
pub record Lowest (x A : ℕ) : Type 0 where
  pub member : In x A
  pub below : (y : ℕ) → y < x → Out y A

-- and the highest
pub record Highest (x A : ℕ) : Type 0 where
  pub member : In x A
  pub above : (y : ℕ) → x < y → Out y A
