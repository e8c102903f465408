-- Laws of sets of atoms, atom by atom.
use Rattle.std.proofs.Common.{◌≡◌, ℕ, zero, suc, ◌+◌, ◌*◌, ◌/◌, ◌%◌, ◌^◌, ◌<◌, ◌≤◌, Bool, true, false, cond, not, ◌&&◌, ◌||◌, eqb, ◌⊎◌, Decides, sym, refl, ap, ◌∙◌, subst, inl, inr, ⊎_elim, pow-suc, arith, pow_pos}
use lib.Dec.{eqb-suc-zero, eqb-suc-suc}
use lib.Bits.{bit_and, bit_or, and_step, or_step, and_le_r}
use Rattle.std.proofs.lemmas.Bool.Decides.{nat_tests, same_from_decides}
use Rattle.std.proofs.lemmas.Bool.{cases_lt, cases_Bool, both_ways, and_parts, and_from, or_cases, or_parts, or_left, or_right, eqb-true, eq-eqb, ne_eqb}
use Rattle.semantics.specs.Sets.{has, within, disjoint, adding, others, collect, In, Out, Sub, Apart}

-- ---- the bits of a number

pub has-low : (A : ℕ) → has A 0 ≡ eqb (A % 2) 1
unfolding has
has-low A = refl

pub has-next : (A x : ℕ) → has A (suc x) ≡ has (A / 2) x
unfolding has
has-next A x = refl

pub has_and : (A B x : ℕ) → has (bit_and A B) x ≡ (has A x && has B x)
unfolding has
has_and A B zero = grind (arith, nat_tests, and_step A B)
has_and A B (suc x) =
    let half : bit_and A B / 2 ≡ bit_and (A / 2) (B / 2) = omega (arith, and_step A B) in
    ap (λ n. has n x) half ∙ has_and (A / 2) (B / 2) x

pub has_or : (A B x : ℕ) → has (bit_or A B) x ≡ (has A x || has B x)
unfolding has
has_or A B zero = grind (arith, nat_tests, or_step A B)
has_or A B (suc x) =
    let half : bit_or A B / 2 ≡ bit_or (A / 2) (B / 2) = omega (arith, or_step A B) in
    ap (λ n. has n x) half ∙ has_or (A / 2) (B / 2) x

pub has-none : (x : ℕ) → has 0 x ≡ false
unfolding has
has-none zero = refl
has-none (suc x) = has-none x

pub has-others : (w A x : ℕ) → x < w → A < 2 ^ w → has (others w A) x ≡ not (has A x)
unfolding has others
has-others zero A x h l = absurd (omega arith)
has-others (suc w) A zero h l = grind (arith, nat_tests, pow-suc 2 w, pow_pos w)
has-others (suc w) A (suc x) h l =
    let p = pow-suc 2 w in
    let half : others (suc w) A / 2 ≡ others w (A / 2) = omega (arith, p, pow_pos w) in
    ap (λ n. has n x) half ∙ has-others w (A / 2) x (omega arith) (omega arith)

pub has_past : (w A x : ℕ) → A < 2 ^ w → w ≤ x → has A x ≡ false
unfolding has
has_past zero A x l h = let z : A ≡ 0 = omega arith in ap (λ n. has n x) z ∙ has-none x
has_past (suc w) A zero l h = absurd (omega arith)
has_past (suc w) A (suc x) l h = has_past w (A / 2) x (omega (arith, pow-suc 2 w)) (omega arith)

-- two sets below 2 ^ w with the same atoms are one
pub same_set : (w A B : ℕ) → A < 2 ^ w → B < 2 ^ w → ((x : ℕ) → x < w → has A x ≡ has B x) → A ≡ B
unfolding has
same_set zero A B la lb h = omega arith
same_set (suc w) A B la lb h =
    let p = pow-suc 2 w in
    let tops : A / 2 ≡ B / 2 = same_set w (A / 2) (B / 2) (omega arith) (omega arith) (λ x l. h (suc x) (omega arith)) in
    let low : eqb (A % 2) 1 ≡ eqb (B % 2) 1 = h zero (omega arith) in
    grind (arith, nat_tests)

pub below_power : (n : ℕ) → n < 2 ^ n
below_power zero = omega arith
below_power (suc n) = omega (arith, below_power n, pow-suc 2 n, pow_pos n)

pub same_atoms : (A B : ℕ) → ((x : ℕ) → has A x ≡ has B x) → A ≡ B
same_atoms A B h =
    same_set (A + B) A B (omega (arith, below_power (A + B))) (omega (arith, below_power (A + B))) (λ x _. h x)

-- the atom x is in A exactly where the weight 2 ^ x is in the number A
pub has_weight : (A x : ℕ) → has A x ≡ eqb (A / 2 ^ x % 2) 1
unfolding has
has_weight A zero = ap (λ n. eqb (n % 2) 1) (omega arith)
has_weight A (suc x) =
    has_weight (A / 2) x
    ∙ ap (λ n. eqb (n % 2) 1) (Rattle.std.proofs.lemmas.Nat.shr-shr A 1 x ∙ ap (λ n. A / 2 ^ n) (omega arith))

-- ---- sets, by their members

-- the same truth, said by two implications
pub same_truth : (a b : Bool) → (a ≡ true → b ≡ true) → (b ≡ true → a ≡ true) → a ≡ b
same_truth true b f g = sym (f refl)
same_truth false true f g = g refl
same_truth false false f g = refl

-- what is never true is false
pub false_from : (b : Bool) → (b ≡ true → ⊥) → b ≡ false
false_from b f = ⊎_elim (λ t. absurd (f t)) (λ e. e) (cases_Bool b)

pub not_both : {X : Type 0} (x A : ℕ) → In x A → Out x A → X
not_both x A i o = absurd (both_ways (has A x) o i)

-- nothing is in the empty set
pub none_in : {X : Type 0} (x : ℕ) → In x 0 → X
none_in x i = not_both x 0 i (has-none x)

pub out_from : (x A : ℕ) → (In x A → Out x A) → Out x A
out_from x A f = ⊎_elim f (λ o. o) (cases_Bool (has A x))

pub and_sub : (A B : ℕ) → bit_and A B ≡ A → Sub A B
and_sub A B e x h =
    let m = has_and A B x in
    let n = ap (λ m. has m x) e in
    grind arith

pub sub_and_at : (a b : Bool) → (a ≡ true → b ≡ true) → (a && b) ≡ a
sub_and_at true b h = h refl
sub_and_at false b h = refl

pub sub_and : (A B : ℕ) → Sub A B → bit_and A B ≡ A
sub_and A B h = same_atoms (bit_and A B) A (λ x. has_and A B x ∙ sub_and_at (has A x) (has B x) (h x))

pub sub_le : (A B : ℕ) → Sub A B → A ≤ B
sub_le A B h = omega (arith, sub_and A B h, and_le_r A B)

pub sub_anti : (A B : ℕ) → Sub A B → Sub B A → A ≡ B
sub_anti A B p q = same_atoms A B (λ x. same_truth (has A x) (has B x) (p x) (q x))

apart_and_at : (a b : Bool) → (a ≡ true → b ≡ false) → (a && b) ≡ false
apart_and_at true b h = h refl
apart_and_at false b h = refl

pub apart_and : (A B : ℕ) → Apart A B → bit_and A B ≡ 0
apart_and A B h =
    same_atoms (bit_and A B) 0 (λ x. has_and A B x ∙ apart_and_at (has A x) (has B x) (h x) ∙ sym (has-none x))

pub and_apart : (A B : ℕ) → bit_and A B ≡ 0 → Apart A B
and_apart A B e x h =
    let m = has_and A B x in
    let n = ap (λ m. has m x) e ∙ has-none x in
    grind arith

pub apart_sym : (A B : ℕ) → Apart A B → Apart B A
apart_sym A B h x i = out_from x A (λ j. not_both x B i (h x j))

-- what is apart from a set is apart from a part of it
pub apart_sub : (A B C : ℕ) → Sub B C → Apart A C → Apart A B
apart_sub A B C s d x i = out_from x B (λ j. not_both x C (s x j) (d x i))

-- ---- one atom

pub has_one : (k x : ℕ) → has (2 ^ k) x ≡ eqb x k
unfolding has
has_one zero zero = refl
has_one (suc k) zero = grind (arith, nat_tests, pow-suc 2 k)
has_one zero (suc x) = has-none x ∙ sym (eqb-suc-zero x)
has_one (suc k) (suc x) =
    let half : 2 ^ suc k / 2 ≡ 2 ^ k = omega (arith, pow-suc 2 k) in
    ap (λ n. has n x) half ∙ has_one k x ∙ sym (eqb-suc-suc x k)

pub has-adding : (A k x : ℕ) → has (adding A k) x ≡ (has A x || eqb x k)
unfolding adding
has-adding A k x = has_or A (2 ^ k) x ∙ ap (λ t. has A x || t) (has_one k x)

pub one_in : (k : ℕ) → In k (2 ^ k)
one_in k = has_one k k ∙ eq-eqb k k refl

pub in_adding : (A k x : ℕ) → In x (adding A k) → In x A ⊎ (x ≡ k)
in_adding A k x h = ⊎_elim inl (λ e. inr (eqb-true x k e)) (or_cases (has A x) (eqb x k) (sym (has-adding A k x) ∙ h))

pub adding_in : (A k : ℕ) → In k (adding A k)
adding_in A k = has-adding A k k ∙ or_right (has A k) (eqb k k) (eq-eqb k k refl)

pub adding-keeps : (A k : ℕ) → Sub A (adding A k)
adding-keeps A k x i = has-adding A k x ∙ or_left (has A x) (eqb x k) i

-- ---- unions, meets and complements

pub in_and : (A B x : ℕ) → In x (bit_and A B) → In x A × In x B
in_and A B x i = and_parts (has A x) (has B x) (sym (has_and A B x) ∙ i)

pub and_in : (A B x : ℕ) → In x A → In x B → In x (bit_and A B)
and_in A B x i j = has_and A B x ∙ and_from (has A x) (has B x) i j

pub in_or : (A B x : ℕ) → In x (bit_or A B) → In x A ⊎ In x B
in_or A B x h = or_cases (has A x) (has B x) (sym (has_or A B x) ∙ h)

pub or_in_left : (A B : ℕ) → Sub A (bit_or A B)
or_in_left A B x h = has_or A B x ∙ or_left (has A x) (has B x) h

pub or_in_right : (A B : ℕ) → Sub B (bit_or A B)
or_in_right A B x h = has_or A B x ∙ or_right (has A x) (has B x) h

pub or_out : (A B x : ℕ) → Out x (bit_or A B) → Out x A × Out x B
or_out A B x h = or_parts (has A x) (has B x) (sym (has_or A B x) ∙ h)

pub others_below : (w A : ℕ) → others w A < 2 ^ w
unfolding others
others_below w A = omega (arith, pow_pos w)

pub in_others : (w A x : ℕ) → x < w → A < 2 ^ w → Out x A → In x (others w A)
in_others w A x l m o = has-others w A x l m ∙ ap not o

pub out-others : (w A x : ℕ) → A < 2 ^ w → In x A → Out x (others w A)
out-others w A x m i =
    ⊎_elim (λ l. has-others w A x l m ∙ ap not i) (λ up. not_both x A i (has_past w A x m up)) (cases_lt x w)

-- ---- bounds and order

-- a set below 2 ^ w has no atom from w on, and a set with no atom from w on is below 2 ^ w
pub has-below : (w A x : ℕ) → A < 2 ^ w → In x A → x < w
has-below w A x l i = ⊎_elim (λ h. h) (λ h. not_both x A i (has_past w A x l h)) (cases_lt x w)

pub below-width : (w A : ℕ) → ((x : ℕ) → In x A → x < w) → A < 2 ^ w
unfolding has
below-width zero A h = let z : A ≡ 0 = same_atoms A 0 (λ x. ⊎_elim (λ i. absurd (omega (arith, h x i))) (λ o. o ∙ sym (has-none x)) (cases_Bool (has A x))) in omega arith
below-width (suc w) A h =
    let half : A / 2 < 2 ^ w = below-width w (A / 2) (λ x i. omega (arith, h (suc x) i)) in
    omega (arith, pow-suc 2 w)

-- the greatest atom in which two sets differ decides which is the greater number
pub agree-lt : (k A B : ℕ) → ((x : ℕ) → k < x → has A x ≡ has B x) → Out k A → In k B → A < B
unfolding has
agree-lt zero A B h o i =
    let tops : A / 2 ≡ B / 2 = same_atoms (A / 2) (B / 2) (λ x. h (suc x) (omega arith)) in
    grind (arith, nat_tests)
agree-lt (suc k) A B h o i =
    let tops : A / 2 < B / 2 = agree-lt k (A / 2) (B / 2) (λ x l. h (suc x) (omega arith)) o i in
    omega arith

-- ---- the tests

pub decides_within : (A B : ℕ) → Decides (within A B) (Sub A B)
unfolding within
decides_within A B = (λ e. and_sub A B (eqb-true _ _ e), λ s. eq-eqb _ _ (sub_and A B s))

pub decides_disjoint : (A B : ℕ) → Decides (disjoint A B) (Apart A B)
unfolding disjoint
decides_disjoint A B = (λ e. and_apart A B (eqb-true _ _ e), λ s. eq-eqb _ _ (apart_and A B s))

pub within_has : (A B x : ℕ) → within A B ≡ true → In x A → In x B
within_has A B x t = (decides_within A B).0 t x

pub within_from : (w A B : ℕ) → A < 2 ^ w → ((x : ℕ) → x < w → In x A → In x B) → within A B ≡ true
within_from w A B l f = (decides_within A B).1 (λ x i. f x (has-below w A x l i) i)

-- the test `a & 1 << k != 0`
pub test_one : (A k : ℕ) → not (eqb (bit_and A (2 ^ k)) 0) ≡ has A k
test_one A k = same_from_decides _ _ one (λ e. e, λ e. e)
  where
    one : Decides (not (eqb (bit_and A (2 ^ k)) 0)) (In k A)
    one = (
      λ e. ⊎_elim (λ y. y) (λ n. let z = apart_and A (2 ^ k) (λ x i. has_one k x ∙ ne_eqb x k (λ q. not_both k A (subst (λ y. has A y ≡ true) q i) n)) in absurd (grind (arith, nat_tests))) (cases_Bool (has A k)),
      λ i. let one = one_in k in let and = has_and A (2 ^ k) k in let z = has-none k in grind (arith, nat_tests),
    )

-- ---- the atoms that pass a test

bit_of : (m : ℕ) (b : Bool) → eqb ((m * 2 + cond b 1 0) % 2) 1 ≡ b
bit_of m true = eq-eqb ((m * 2 + 1) % 2) 1 (omega arith)
bit_of m false = ne_eqb ((m * 2 + 0) % 2) 1 (λ e. omega arith)

half_of : (m : ℕ) (b : Bool) → (m * 2 + cond b 1 0) / 2 ≡ m
half_of m true = omega arith
half_of m false = omega arith

below_of : (n m : ℕ) (b : Bool) → m < 2 ^ n → m * 2 + cond b 1 0 < 2 ^ suc n
below_of n m true h = omega arith
below_of n m false h = omega arith

pub collect-below : (n : ℕ) (p : ℕ → Bool) → collect n p < 2 ^ n
unfolding collect
collect-below zero p = omega arith
collect-below (suc n) p = below_of n (collect n (λ x. p (suc x))) (p zero) (collect-below n (λ x. p (suc x)))

pub collect-has : (n : ℕ) (p : ℕ → Bool) (x : ℕ) → x < n → has (collect n p) x ≡ p x
unfolding collect
collect-has zero p x h = absurd (omega arith)
collect-has (suc n) p zero h = has-low (collect (suc n) p) ∙ bit_of (collect n (λ x. p (suc x))) (p zero)
collect-has (suc n) p (suc x) h =
    has-next (collect (suc n) p) x ∙ (ap (λ m. has m x) (half_of (collect n (λ y. p (suc y))) (p zero)) ∙ collect-has n (λ y. p (suc y)) x (omega arith))
