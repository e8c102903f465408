-- Lists that were changed entry by entry, with what stands beside each.
use Rattle.std.proofs.Common.{◌≡◌, ℕ, zero, suc, ◌<◌, Bool, true, false, cond, List, [], ◌∷◌, length, get_or, drop, set, sym, refl, ap, ◌∙◌, arith}
use Rattle.std.proofs.lemmas.List.{set-get_or}
use Rattle.rulebase.specs.Calls.{beside}

module _ {A B : Type 0} (f : A → B → A) where
  pub length-beside : (n : ℕ) (xs : List A) (ys : List B) → length (beside f n xs ys) ≡ length xs
  unfolding beside
  length-beside zero xs ys = refl
  length-beside (suc n) [] ys = refl
  length-beside (suc n) (x ∷ xs) [] = refl
  length-beside (suc n) (x ∷ xs) (y ∷ ys) = ap suc (length-beside n xs ys)

  -- what lies beyond stays
  pub drop-beside : (n : ℕ) (xs : List A) (ys : List B) → drop n (beside f n xs ys) ≡ drop n xs
  unfolding beside
  drop-beside zero xs ys = refl
  drop-beside (suc n) [] ys = refl
  drop-beside (suc n) (x ∷ xs) [] = refl
  drop-beside (suc n) (x ∷ xs) (y ∷ ys) = drop-beside n xs ys

  -- and so does the next entry
  pub get_or-beside : (n : ℕ) (xs : List A) (ys : List B) (d : A) → get_or (beside f n xs ys) n d ≡ get_or xs n d
  unfolding beside
  get_or-beside zero xs ys d = refl
  get_or-beside (suc n) [] ys d = refl
  get_or-beside (suc n) (x ∷ xs) [] d = refl
  get_or-beside (suc n) (x ∷ xs) (y ∷ ys) d = get_or-beside n xs ys d

  -- one entry more
  pub beside_more : (n : ℕ) (xs : List A) (ys : List B) (d : A) (e : B) → n < length xs → n < length ys → beside f (suc n) xs ys ≡ set (beside f n xs ys) n (f (get_or xs n d) (get_or ys n e))
  unfolding beside
  beside_more n [] ys d e p q = absurd (omega arith)
  beside_more n (x ∷ xs) [] d e p q = absurd (omega arith)
  beside_more zero (x ∷ xs) (y ∷ ys) d e p q = refl
  beside_more (suc n) (x ∷ xs) (y ∷ ys) d e p q = ap (λ l. f x y ∷ l) (beside_more n xs ys d e (omega arith) (omega arith))

-- one entry more, where it is written or kept by a test
pub beside_test : {A B : Type 0} (test : A → B → Bool) (a : A) (n : ℕ) (xs : List A) (ys : List B) (d : A) (e : B) → n < length xs → n < length ys → beside (λ x y. cond (test x y) a x) (suc n) xs ys ≡ cond (test (get_or xs n d) (get_or ys n e)) (set (beside (λ x y. cond (test x y) a x) n xs ys) n a) (beside (λ x y. cond (test x y) a x) n xs ys)
beside_test {A} {B} test a n xs ys d e p q = beside_more f n xs ys d e p q ∙ go (test (get_or xs n d) (get_or ys n e))
  where
    f : A → B → A
    f x y = cond (test x y) a x

    go : (t : Bool) → set (beside f n xs ys) n (cond t a (get_or xs n d)) ≡ cond t (set (beside f n xs ys) n a) (beside f n xs ys)
    go true = refl
    go false = ap (set (beside f n xs ys) n) (sym (get_or-beside f n xs ys d)) ∙ set-get_or (beside f n xs ys) n d
