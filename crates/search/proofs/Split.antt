-- A search within bounds by the searches below it.
use Rattle.std.proofs.Common.{◌≡◌, ℕ, ◌+◌, ◌^◌, ◌<◌, ◌≤◌, Option, sym, ◌∙◌, subst, ⊎_elim, arith, MatchOption}
use lib.Bits.{bit_or}
use Rattle.std.proofs.lemmas.Bool.{cases_Bool, cases_lt, cases_eq}
use Rattle.semantics.specs.Sets.{width, has, adding, others, In, Out, Sub, Apart, Highest}
use Rattle.semantics.proofs.Sets.{has_past, has-below, same_atoms, sub_anti, agree-lt, below-width, none_in, sub_le, in_or, or_in_left, or_in_right, in_adding, adding_in, adding-keeps, in_others, out-others, others_below, not_both, out_from, apart_sym, apart_sub}
use Rattle.semantics.proofs.Members.{option_weaker}
use Rattle.search.specs.Admissible.{Fits, Least, NoSuch}
use Rattle.search.specs.Narrowed.{Narrowed, Of}
use Rattle.search.specs.declared.bounds.Bounds.{Bounds}
use Rattle.search.proofs.Forced.{none-narrowed, room}

-- the atoms that are decided
abbrev pub decided : Bounds → ℕ
decided b = bit_or b.present b.absent

-- the atom n present too, or absent too
abbrev pub more_present : Bounds → ℕ → Bounds
more_present b n = record { present = adding b.present n; absent = b.absent }

abbrev pub more_absent : Bounds → ℕ → Bounds
more_absent b n = record { present = b.present; absent = adding b.absent n }

-- every atom from k up is decided
pub record DecidedFrom (k : ℕ) (b : Bounds) : Type 0 where
  pub decided : (x : ℕ) → k ≤ x → x < width → In x (decided b)

-- ---- what is decided

or_more : (a b c d : ℕ) → Sub a c → Sub b d → Sub (bit_or a b) (bit_or c d)
or_more a b c d p q j h = ⊎_elim (λ i. or_in_left c d j (p j i)) (λ i. or_in_right c d j (q j i)) (in_or a b j h)

pub decided-narrowed : {K : ℕ → Type 0} {k : ℕ} {b c : Bounds} → DecidedFrom k b → Narrowed K b c → DecidedFrom k c
decided-narrowed {b = b} {c = c} d n = record { decided = λ j l m. or_more b.present b.absent c.present c.absent n.keeps_present n.keeps_absent j (d.decided j l m) }

-- at the greatest open atom n
pub decided_open : {n k : ℕ} {b : Bounds} → DecidedFrom k b → ((j : ℕ) → n < j → j < k → j < width → In j (decided b)) → DecidedFrom (n + 1) b
decided_open {k = k} d between =
    record { decided = λ j h m. ⊎_elim (λ below. between j (omega arith) below m) (λ up. d.decided j up m) (cases_lt j k) }

module _ (n : ℕ) (b : Bounds) (d : DecidedFrom (n + 1) b) where
  -- every atom from n up is decided once n is
  upto : (c : Bounds) → Sub (decided b) (decided c) → In n (decided c) → DecidedFrom n c
  upto c more here = record {
    decided = λ j l m. ⊎_elim (λ is. subst (λ x. In x (decided c)) (sym is) here) (λ other. more j (d.decided j (omega arith) m)) (cases_eq j n);
  }

  pub decided_absent : DecidedFrom n (more_absent b n)
  decided_absent =
      upto (more_absent b n)
      (or_more b.present b.absent b.present (adding b.absent n) (λ j h. h) (adding-keeps b.absent n))
      (or_in_right b.present (adding b.absent n) n (adding_in b.absent n))

  pub decided_present : DecidedFrom n (more_present b n)
  decided_present =
      upto (more_present b n)
      (or_more b.present b.absent (adding b.present n) b.absent (adding-keeps b.present n) (λ j h. h))
      (or_in_left (adding b.present n) b.absent n (adding_in b.present n))

-- ---- the greatest open atom

module _ (b : Bounds) (lp : b.present < 2 ^ width) (la : b.absent < 2 ^ width) where
  low : decided b < 2 ^ width
  low = below-width width (decided b) (λ x i. ⊎_elim (has-below width b.present x lp) (has-below width b.absent x la) (in_or b.present b.absent x i))

  pub decided-all : others width (decided b) ≡ 0 → DecidedFrom 0 b
  decided-all none = record {
    decided = λ x _ m. ⊎_elim (λ i. i) (λ o. absurd (none_in x (subst (In x) none (in_others width (decided b) x m low o)))) (cases_Bool (has (decided b) x));
  }

  module _ (n : ℕ) (h : Highest n (others width (decided b))) where
    pub decided_above : DecidedFrom (n + 1) b
    decided_above = record {
      decided = λ x l m. ⊎_elim (λ i. i) (λ o. absurd (not_both x (others width (decided b)) (in_others width (decided b) x m low o) (h.above x (omega arith)))) (cases_Bool (has (decided b) x));
    }

    open_atom : In n (decided b) → ⊥
    open_atom i = not_both n (others width (decided b)) h.member (out-others width (decided b) n low i)

    -- an atom more makes a greater number
    adding_more : (A : ℕ) → A < 2 ^ width → (In n A → ⊥) → (A < adding A n) × (adding A n < 2 ^ width)
    adding_more A l never =
        let more : A ≤ adding A n = sub_le A (adding A n) (adding-keeps A n) in
        let here : n < width = has-below width (others width (decided b)) n (others_below width (decided b)) h.member in (
          ⊎_elim (λ e. absurd (never (subst (In n) (sym e) (adding_in A n)))) (λ d. omega (arith, d)) (cases_eq A (adding A n)),
          below-width width (adding A n) (λ x i. ⊎_elim (has-below width A x l) (λ (e : x ≡ n). omega arith) (in_adding A n x i)),
        )

    pub room_present : room (more_present b n) < room b
    room_present = let more = adding_more b.present lp (λ i. open_atom (or_in_left b.present b.absent n i)) in omega (arith, more.0, more.1)

    pub room_absent : room (more_absent b n) < room b
    room_absent = let more = adding_more b.absent la (λ i. open_atom (or_in_right b.present b.absent n i)) in omega (arith, more.0, more.1)

-- ---- what fits

module _ (n : ℕ) (b : Bounds) (A : ℕ) where
  fits_absent : Fits b A → Out n A → Fits (more_absent b n) A
  fits_absent f o = (
    f.0,
    λ j i. out_from j (adding b.absent n) (λ t. ⊎_elim (λ u. not_both j b.absent u (f.1 j i)) (λ q. not_both n A (subst (λ x. In x A) q i) o) (in_adding b.absent n j t)),
  )

  fits_present : Fits b A → In n A → Fits (more_present b n) A
  fits_present f i = (λ j t. ⊎_elim (f.0 j) (λ q. subst (λ x. In x A) (sym q) i) (in_adding b.present n j t), f.1)

  absent_fits : Fits (more_absent b n) A → Fits b A × Out n A
  absent_fits f = (
    (f.0, apart_sub A b.absent (adding b.absent n) (adding-keeps b.absent n) f.1),
    apart_sym A (adding b.absent n) f.1 n (adding_in b.absent n),
  )

  present_fits : Fits (more_present b n) A → Fits b A
  present_fits f = (λ j i. f.0 j (adding-keeps b.present n j i), f.1)

fits_looser : {K : ℕ → Type 0} {b c : Bounds} → Narrowed K b c → (A : ℕ) → Fits c A → Fits b A
fits_looser {b = b} {c = c} n A fit =
    (λ k i. fit.0 k (n.keeps_present k i), apart_sub A b.absent c.absent n.keeps_absent fit.1)

-- two sets that fit agree from k up
agree : {k : ℕ} {b : Bounds} → DecidedFrom k b → (A B : ℕ) → A < 2 ^ width → B < 2 ^ width → Fits b A → Fits b B → (j : ℕ) → k ≤ j → has A j ≡ has B j
agree {k} {b} d A B la lb fa fb j l =
    ⊎_elim
    (λ m. ⊎_elim
    (λ i. fa.0 j i ∙ sym (fb.0 j i))
    (λ o. apart_sym A b.absent fa.1 j o ∙ sym (apart_sym B b.absent fb.1 j o))
    (in_or b.present b.absent j (d.decided j l m)))
    (λ up. has_past width A j la up ∙ sym (has_past width B j lb up))
    (cases_lt j width)

-- where no atom is open the present ones are all but the absent ones
decided-full : (b : Bounds) → b.present < 2 ^ width → b.absent < 2 ^ width → Apart b.present b.absent → DecidedFrom 0 b → others width b.absent ≡ b.present
decided-full b lp la apart d =
    sub_anti (others width b.absent) b.present
    (λ x i. ⊎_elim (λ j. j) (λ j. not_both x (others width b.absent) i (out-others width b.absent x la j)) (in_or b.present b.absent x (d.decided x (omega arith) (has-below width (others width b.absent) x (others_below width b.absent) i))))
    (λ x i. in_others width b.absent x (has-below width b.present x lp i) la (apart x i))

-- ---- the answers, for a property K of sets of atoms

-- what is least for narrower bounds is least for the bounds
least-narrowed : {K : ℕ → Type 0} {b c : Bounds} → Narrowed K b c → {A : ℕ} → Least (Of K c) A → Least (Of K b) A
least-narrowed n {A} l = record {
  passes = (l.passes.0, fits_looser n A l.passes.1);
  least = λ B g. l.least B (g.0, n.fits B g.0 g.1);
}

module _ {K : ℕ → Type 0} (low : (A : ℕ) → K A → A < 2 ^ width) where
  -- where no atom is open
  leaf_least : (b : Bounds) → DecidedFrom 0 b → Apart b.present b.absent → K b.present → Least (Of K b) b.present
  leaf_least b d apart h = record {
    passes = (h, (λ k i. i, apart));
    least = λ B f. omega (arith, same_atoms B b.present (λ j. agree d B b.present (low B f.0) (low b.present h) f.1 (λ k i. i, apart) j (omega arith)));
  }

  -- the answer where the narrower bounds leave no atom open
  pub leaf : {b : Bounds} (c : Bounds) → c.present < 2 ^ width → c.absent < 2 ^ width → Narrowed K b c → Apart c.present c.absent → (others width c.absent ≡ c.present → K c.present) → DecidedFrom 0 c → Least (Of K b) c.present
  leaf c lp la n apart settled all = least-narrowed n (leaf_least c all apart (settled (decided-full c lp la apart all)))

  -- the answers at an open atom n
  module _ (n : ℕ) {b c : Bounds} (m : Narrowed K b c) (d : DecidedFrom (n + 1) c) where
    pub found_absent : {A : ℕ} → Least (Of K (more_absent c n)) A → Least (Of K b) A
    found_absent {A} l =
        let f = absent_fits n c A l.passes.1 in
        least-narrowed m (record {
          passes = (l.passes.0, f.0);
          least = λ B g.
              ⊎_elim
              (λ i. let lt : A < B = agree-lt n A B (λ j o. agree d A B (low A l.passes.0) (low B g.0) f.0 g.1 j (omega arith)) f.1 i in omega arith)
              (λ o. l.least B (g.0, fits_absent n c B g.1 o))
              (cases_Bool (has B n));
        })

    pub then_present : NoSuch (Of K (more_absent c n)) → (o : Option ℕ) → MatchOption o (NoSuch (Of K (more_present c n))) (Least (Of K (more_present c n))) → MatchOption o (NoSuch (Of K b)) (Least (Of K b))
    then_present none o h =
        option_weaker o (NoSuch (Of K (more_present c n))) (NoSuch (Of K b)) (Least (Of K (more_present c n))) (Least (Of K b)) h
        (λ k. none-narrowed m (λ B g. split B g (k B) (none B)))
        (λ A l. least-narrowed m (record {
          passes = (l.passes.0, present_fits n c A l.passes.1);
          least = λ B g. split B g (l.least B) (λ f. absurd (none B f));
        }))
      where
        -- a set has the atom or lacks it
        split : {P : Type 0} (B : ℕ) → Of K c B → (Of K (more_present c n) B → P) → (Of K (more_absent c n) B → P) → P
        split B g there lacking =
            ⊎_elim (λ i. there (g.0, fits_present n c B g.1 i)) (λ o. lacking (g.0, fits_absent n c B g.1 o)) (cases_Bool (has B n))
