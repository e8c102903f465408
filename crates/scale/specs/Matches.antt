-- The grade whose text some bytes are, where the grades are numbered.
use Rattle.std.specs.Prelude.{◌≡◌, ℕ, zero, suc, ◌<◌, true, false, cond, List, Some, None, Option}
use Rattle.std.proofs.Math.Path.{sym, ap}
use Rattle.std.proofs.Common.{◌∙◌, arith}
use Rattle.std.proofs.Math.Logic.{⊎_elim}
use Rattle.std.specs.Str.{bytes_eq}
use Rattle.std.proofs.lemmas.Slice.Eq.{bytes_eq-Decides}
use Rattle.std.proofs.lemmas.Bool.{cases_Bool, cases_eq, both_ways, cond-true, cond-false}

module _ {G : Type 0} (of : G → List ℕ) (numbered : ℕ → G) where
  -- of the grades numbered below n, the one whose text the bytes are, or none
  unfoldable pub matching : ℕ → List ℕ → Option G
  matching zero bytes = None
  matching (suc n) bytes = cond (bytes_eq bytes (of (numbered n))) (Some (numbered n)) (matching n bytes)

  -- only the text of a grade gives it
  pub matching-only : (n : ℕ) (bytes : List ℕ) (g : G) → matching n bytes ≡ Some g → bytes ≡ of g
  unfolding matching
  matching-only zero bytes g e = let z : ◌≡◌ {A = ℕ} 0 1 = cc in absurd (omega arith)
  matching-only (suc n) bytes g e =
      let t = bytes_eq bytes (of (numbered n)) in
      ⊎_elim
      (λ (p : t ≡ true).
      let f : Some (numbered n) ≡ Some g = sym (cond-true t (Some (numbered n)) (matching n bytes) p) ∙ e in
      let q : numbered n ≡ g = cc in
      (bytes_eq-Decides bytes (of (numbered n))).0 p ∙ ap of q)
      (λ (p : t ≡ false). matching-only n bytes g (sym (cond-false t (Some (numbered n)) (matching n bytes) p) ∙ e))
      (cases_Bool t)

  -- where no two grades have the same text, the text of a grade gives it
  pub matching-reads : ((g h : G) → of g ≡ of h → g ≡ h) → (n k : ℕ) (g : G) → k < n → numbered k ≡ g → matching n (of g) ≡ Some g
  unfolding matching
  matching-reads same zero k g h e = absurd (omega arith)
  matching-reads same (suc n) k g h e =
      let t = bytes_eq (of g) (of (numbered n)) in
      let d = bytes_eq-Decides (of g) (of (numbered n)) in
      ⊎_elim
      (λ (p : t ≡ true). cond-true t (Some (numbered n)) (matching n (of g)) p ∙ ap Some (sym (same g (numbered n) (d.0 p))))
      (λ (p : t ≡ false).
      let other : k ≡ n → ⊥ = λ q. both_ways t p (d.1 (ap of (sym e ∙ ap numbered q))) in
      cond-false t (Some (numbered n)) (matching n (of g)) p ∙ matching-reads same n k g (⊎_elim (λ q. absurd (other q)) (λ q. omega arith) (cases_eq k n)) e)
      (cases_Bool t)
