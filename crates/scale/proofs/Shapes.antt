-- The decimal texts of the numbers up to 100.
use Rattle.std.proofs.Common.{◌≡◌, ℕ, ◌+◌, ◌-◌, ◌*◌, ◌/◌, ◌%◌, ◌<◌, ◌≤◌, ◌⊎◌, List, [], ◌∷◌, ◌++◌, length, get_or, decimal, sym, ap, ◌∙◌, inl, inr, ⊎_elim, arith, lit<, lit≤}
use Rattle.std.proofs.lemmas.Fmt.{decimal_digit, decimal_step}
use Rattle.std.proofs.lemmas.Bool.{cases_lt}
use Rattle.scale.specs.Numbered.{point_text}
use Rattle.scale.specs.declared.point.Point.{Point}

-- the text of a number of two digits
pub two_digits : (n : ℕ) → 10 ≤ n → n < 100 → decimal n ≡ (48 + n / 10) ∷ (48 + n % 10) ∷ []
two_digits n low high = decimal_step n low (omega arith) ∙ ap (λ (ds : List ℕ). ds ++ ((48 + n % 10) ∷ [])) (decimal_digit (n / 10) (omega arith))

-- the text of 100
pub hundred : (n : ℕ) → 100 ≤ n → n ≤ 100 → decimal n ≡ 49 ∷ 48 ∷ 48 ∷ []
hundred n low high =
    let e : n ≡ 100 = omega arith in
    ap decimal e ∙ decimal_step 100 (lit≤ tt) (lit< tt) ∙ ap (λ (ds : List ℕ). ds ++ (48 ∷ [])) (two_digits 10 (lit≤ tt) (lit< tt))

-- one digit
abbrev pub One : List ℕ → Type 0
One bs = (length bs ≡ 1) × (48 ≤ get_or bs 0 0) × (get_or bs 0 0 ≤ 57)

-- two digits, the first not 0
abbrev pub Two : List ℕ → Type 0
Two bs = (length bs ≡ 2) × (49 ≤ get_or bs 0 0) × (get_or bs 0 0 ≤ 57) × (48 ≤ get_or bs 1 0) × (get_or bs 1 0 ≤ 57)

-- the bytes of 100
abbrev pub Three : List ℕ → Type 0
Three bs = (length bs ≡ 3) × (get_or bs 0 0 ≡ 49) × (get_or bs 1 0 ≡ 48) × (get_or bs 2 0 ≡ 48)

one : (bs : List ℕ) (a : ℕ) → a < 10 → bs ≡ (48 + a) ∷ [] → One bs
one bs a h e = let l = ap length e in let x = ap (λ (l : List ℕ). get_or l 0 0) e in (l, omega arith, omega arith)

two : (bs : List ℕ) (a b : ℕ) → 0 < a → a < 10 → b < 10 → bs ≡ (48 + a) ∷ (48 + b) ∷ [] → Two bs
two bs a b p h k e =
    let l = ap length e in
    let x = ap (λ (l : List ℕ). get_or l 0 0) e in
    let y = ap (λ (l : List ℕ). get_or l 1 0) e in
    (l, omega arith, omega arith, omega arith, omega arith)

three : (bs : List ℕ) → bs ≡ 49 ∷ 48 ∷ 48 ∷ [] → Three bs
three bs e = (ap length e, ap (λ (l : List ℕ). get_or l 0 0) e, ap (λ (l : List ℕ). get_or l 1 0) e, ap (λ (l : List ℕ). get_or l 2 0) e)

-- the text of a number up to 100 has one of the three shapes
pub shape : (n : ℕ) → n ≤ 100 → (bs : List ℕ) → bs ≡ decimal n → One bs ⊎ (Two bs ⊎ Three bs)
shape n small bs e =
    ⊎_elim
    (λ h. inl (one bs n h (e ∙ decimal_digit n h)))
    (λ h. inr (⊎_elim (λ k. inl (two bs (n / 10) (n % 10) (omega arith) (omega arith) (omega arith) (e ∙ two_digits n h k))) (λ k. inr (three bs (e ∙ hundred n k small))) (cases_lt n 100)))
    (cases_lt n 10)

-- bytes of none of the three shapes are the text of no point
pub no_number : (bs : List ℕ) → (One bs → ⊥) → (Two bs → ⊥) → (Three bs → ⊥) → (p : Point) → bs ≡ point_text p → ⊥
no_number bs one two three p e = ⊎_elim one (⊎_elim two three) (shape p.value p.ok bs e)

-- bytes of a shape are the text of the number that they say
pub from_one : (bs : List ℕ) (n : ℕ) → One bs → n ≡ get_or bs 0 0 - 48 → bs ≡ decimal n
from_one [] n h e = absurd (omega arith)
from_one (a ∷ []) n h e = ap (λ (m : ℕ). m ∷ []) (omega arith) ∙ sym (decimal_digit n (omega arith))
from_one (a ∷ b ∷ bs) n h e = absurd (omega arith)

pub from_two : (bs : List ℕ) (n : ℕ) → Two bs → n ≡ (get_or bs 0 0 - 48) * 10 + (get_or bs 1 0 - 48) → bs ≡ decimal n
from_two [] n h e = absurd (omega arith)
from_two (a ∷ []) n h e = absurd (omega arith)
from_two (a ∷ b ∷ []) n h e =
    let x : a ≡ 48 + n / 10 = omega arith in
    let y : b ≡ 48 + n % 10 = omega arith in
    (λ i. x i ∷ y i ∷ []) ∙ sym (two_digits n (omega arith) (omega arith))
from_two (a ∷ b ∷ d ∷ bs) n h e = absurd (omega arith)
