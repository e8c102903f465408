-- The greatest atom in which two sets differ, and the sets that agree above an atom.
use Rattle.std.proofs.Common.{◌≡◌, ℕ, zero, suc, ◌-◌, ◌/◌, ◌%◌, ◌^◌, ◌<◌, ◌≤◌, Decides, sym, ap, ◌∙◌, subst, ⊎_elim, pow-suc, arith, pow_pos}
use lib.Bits.{bit_and}
use Rattle.std.proofs.lemmas.Bool.{cases_Bool, cases_lt, eq-eqb, ne_eqb}
use Rattle.semantics.specs.Sets.{has, adding, others, In, Out}
use Rattle.semantics.proofs.Sets.{has-low, has-next, in_and, and_in, has-none, below_power, same_truth, not_both, out_from, in_adding, adding_in, adding-keeps, in_others, out-others, others_below, has-below, below-width}
use Rattle.search.specs.Admissible.{Fits}

-- A lacks the atom, B has it, and they agree above it
pub record Pivot (A B : ℕ) : Type 0 where
  pub atom : ℕ
  pub lacks : Out atom A
  pub turns : In atom B
  pub agrees : (x : ℕ) → atom < x → has A x ≡ has B x

pivot-next : (A B : ℕ) → Pivot (A / 2) (B / 2) → Pivot A B
pivot-next A B p = record {
  atom = suc p.atom;
  lacks = has-next A p.atom ∙ p.lacks;
  turns = has-next B p.atom ∙ p.turns;
  agrees = above;
}
  where
    above : (x : ℕ) → suc p.atom < x → has A x ≡ has B x
    above zero l = absurd (omega arith)
    above (suc x) l = has-next A x ∙ p.agrees x (omega arith) ∙ sym (has-next B x)

pivot-low : (A B : ℕ) → A / 2 ≡ B / 2 → A < B → Pivot A B
pivot-low A B e l = record {
  atom = 0;
  lacks = has-low A ∙ ne_eqb (A % 2) 1 (λ d. omega arith);
  turns = has-low B ∙ eq-eqb (B % 2) 1 (omega arith);
  agrees = above;
}
  where
    above : (x : ℕ) → 0 < x → has A x ≡ has B x
    above zero k = absurd (omega arith)
    above (suc x) k = has-next A x ∙ ap (λ n. has n x) e ∙ sym (has-next B x)

pivot-below : (w A B : ℕ) → B < 2 ^ w → A < B → Pivot A B
pivot-below zero A B b l = absurd (omega arith)
pivot-below (suc w) A B b l =
    ⊎_elim
    (λ h. pivot-next A B (pivot-below w (A / 2) (B / 2) (omega (arith, pow-suc 2 w)) h))
    (λ h. pivot-low A B (omega arith) l)
    (cases_lt (A / 2) (B / 2))

-- the lesser of two sets lacks the greatest atom in which they differ
pub pivot : (A B : ℕ) → A < B → Pivot A B
pivot A B l = pivot-below B A B (below_power B) l

-- ---- the atoms above an atom

ones : (k : ℕ) → others k 0 ≡ 2 ^ k - 1
unfolding others
ones k = omega arith

ones_below : (k : ℕ) → 2 ^ k - 1 < 2 ^ k
ones_below k = omega (arith, pow_pos k)

module _ (w k : ℕ) (l : k < w) where
  upto_out : (x : ℕ) → In x (adding (2 ^ k - 1) k) → x ≤ k
  upto_out x i = ⊎_elim (λ j. let h = has-below k (2 ^ k - 1) x (ones_below k) j in omega arith) (λ (e : x ≡ k). omega arith) (in_adding (2 ^ k - 1) k x i)

  upto_in : (x : ℕ) → x ≤ k → In x (adding (2 ^ k - 1) k)
  upto_in x h =
      ⊎_elim
      (λ (b : x < k). adding-keeps (2 ^ k - 1) k x (subst (λ (n : ℕ). In x n) (ones k) (in_others k 0 x b (pow_pos k) (has-none x))))
      (λ (b : k ≤ x). let e : k ≡ x = omega arith in subst (λ (y : ℕ). In y (adding (2 ^ k - 1) k)) e (adding_in (2 ^ k - 1) k))
      (cases_lt x k)

  upto_below : adding (2 ^ k - 1) k < 2 ^ w
  upto_below = below-width w (adding (2 ^ k - 1) k) (λ x i. let h = upto_out x i in omega arith)

  -- all but the atoms up to k are those above it
  pub decides_above : (x : ℕ) → Decides (has (others w (adding (2 ^ k - 1) k)) x) ((k < x) × (x < w))
  decides_above x = (
    λ i. (
      ⊎_elim (λ h. h) (λ (h : x ≤ k). not_both x (others w (adding (2 ^ k - 1) k)) i (out-others w (adding (2 ^ k - 1) k) x upto_below (upto_in x h))) (cases_lt k x),
      has-below w (others w (adding (2 ^ k - 1) k)) x (others_below w (adding (2 ^ k - 1) k)) i,
    ),
    λ h. in_others w (adding (2 ^ k - 1) k) x h.1 upto_below (out_from x (adding (2 ^ k - 1) k) (λ i. absurd (omega (arith, upto_out x i, h.0)))),
  )

-- ---- the sets that have an atom k, and agree with a set above it

-- `higher` has the atoms above k
module _ (w set k higher : ℕ) (low : set < 2 ^ w) (up : (x : ℕ) → Decides (has higher x) ((k < x) × (x < w))) where
  abbrev pub Wanted : ℕ → Type 0
  Wanted A = Fits (record { present = adding (bit_and set higher) k; absent = bit_and (others w set) higher }) A

  pub wanted_turns : (A : ℕ) → Wanted A → In k A
  wanted_turns A f = f.0 k (adding_in (bit_and set higher) k)

  pub wanted_agrees : (A : ℕ) → A < 2 ^ w → Wanted A → (x : ℕ) → k < x → has set x ≡ has A x
  wanted_agrees A l f x h =
      same_truth (has set x) (has A x)
      (λ i. f.0 x (adding-keeps (bit_and set higher) k x (and_in set higher x i ((up x).1 (h, has-below w set x low i)))))
      (λ i.
      let b = has-below w A x l i in
      ⊎_elim
      (λ j. j)
      (λ o. not_both x (bit_and (others w set) higher) (and_in (others w set) higher x (in_others w set x b low o) ((up x).1 (h, b))) (f.1 x i))
      (cases_Bool (has set x)))

  pub agrees_wanted : (A : ℕ) → In k A → ((x : ℕ) → k < x → has set x ≡ has A x) → Wanted A
  agrees_wanted A turns agrees = (
    λ x i.
        ⊎_elim
        (λ j. let p = in_and set higher x j in sym (agrees x ((up x).0 p.1).0) ∙ p.0)
        (λ e. subst (λ (y : ℕ). In y A) (sym e) turns)
        (in_adding (bit_and set higher) k x i),
    λ x i. out_from x (bit_and (others w set) higher) (λ j.
        let p = in_and (others w set) higher x j in
        not_both x (others w set) p.0 (out-others w set x low (agrees x ((up x).0 p.1).0 ∙ i))),
  )
