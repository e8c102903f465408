-- A machine seen through the rules that it holds and where their list of stable sets stands. The laws over lists of calls
-- are proved of every such machine.
use Rattle.std.proofs.Common.{◌≡◌, ℕ, suc, ◌+◌, ◌^◌, ◌<◌, true, not, ◌⊎◌, ◌↔◌, List, [], ◌∷◌, ◌++◌, map, length, get_or, take, drop, Some, None, Option, sym, refl, ap, ◌∙◌, subst, ⊎_elim, arith}
use Rattle.std.proofs.Math.Seq.{take-nil}
use Rattle.std.specs.List.{slice_get, range_with_len}
use Rattle.std.proofs.lemmas.List.FromFn.{length-map-range_with_len, get_or-map-range_with_len}
use Rattle.scale.specs.Laws.{Order, above}
use Rattle.semantics.specs.Sets.{has}
use Rattle.semantics.specs.Rules.{Rule, Among, reduct, necessity, conflict, reading, stable, stable_sets, objection}
use Rattle.semantics.specs.Statements.{Fits, Graded, LeastOf}
use Rattle.semantics.proofs.Listing.{lists_stable}
use Rattle.semantics.proofs.Least.{conflict_least, necessity_least}
use Rattle.semantics.proofs.Objections.{necessity_is_grade, free_of_conflict, stable_frees}
use Rattle.semantics.proofs.Reducts.{reduct-fits}
use Rattle.rulebase.specs.Reference.{Standing, stale, after, Reply, model, no_more, grade, moved, fetched}
use Rattle.rulebase.proofs.Taken.{left-none, left_more, nth_among, all_taken, not_taken}
use Rattle.rulebase.specs.Laws.{Kind, changing, rewinding, fetching, resting, Leaves, sets_in, fetches_in, sets, fetches, Lawful, Necessities}

after_same : (m n : ℕ) → after m ≡ after n → m ≡ n
after_same m n e = cc

more_none : {G : Type 0} (A : ℕ) (gs : List G) → model A gs ≡ no_more → ⊥
more_none A gs e = let z : ◌≡◌ {A = ℕ} 0 1 = cc in omega arith

-- ---- The interface.

-- the rules held, and where their list stands
pub record View (G : Type 0) : Type 0 where
  pub rules : List (Rule G)
  pub standing : Standing

-- the answer hands out no set, and is none to a fetch
pub record Silent {G : Type 0} (r : Reply G) : Type 0 where
  pub no_set : sets_in r ≡ []
  pub no_fetch : fetches_in r ≡ 0

module _ {G : Type 0} (o : Order G) (w : ℕ) where
  -- from the view v a fetch leads to u, with the answer r
  pub record Fetches (v u : View G) (r : Reply G) : Type 0 where
    pub count : ℕ
    pub stood : v.standing ≡ after count
    pub holds : u.rules ≡ v.rules
    pub stands : u.standing ≡ after (moved (slice_get (stable_sets o w v.rules) count) count)
    pub says : r ≡ fetched o w v.rules (slice_get (stable_sets o w v.rules) count)

  -- what a call of each kind does
  abbrev pub Does : Kind → View G → View G → Reply G → Type 0
  Does changing v u r = (u.standing ≡ stale) × Silent r
  Does rewinding v u r = (u.rules ≡ v.rules) × (u.standing ≡ after 0) × Silent r
  Does fetching v u r = Fetches v u r
  Does resting v u r = (u.rules ≡ v.rules) × (u.standing ≡ v.standing) × Silent r

  -- a rule that may come in; its bodies are below 2 ^ w where those that the call hands in are
  pub record Comes (r : Rule G) (Sizes : Type 0) : Type 0 where
    pub head : r.head < w
    pub graded : above o r.grade ≡ true
    pub bodies : Sizes → (r.pos < 2 ^ w) × (r.neg < 2 ^ w)

  -- States S and calls C, with what a call of its kind does, where a rule that is held comes from, and which grade is told.
  pub record Machine (S C : Type 0) (SizedOne : C → Type 0) : Type 0 where
    pub reply : S → C → Reply G
    pub next : S → C → S
    pub kind : S → C → Kind
    pub view : S → View G
    pub does : (s : S) (c : C) → Does (kind s c) (view s) (view (next s c)) (reply s c)
    pub origin : (s : S) (c : C) (r : Rule G) → Among r (view (next s c)).rules → Among r (view s).rules ⊎ Comes r (SizedOne c)
    pub grades : (s : S) (c : C) (g : G) → reply s c ≡ grade g → g ≡ conflict o w (view s).rules

  module _ {S C : Type 0} {SizedOne : C → Type 0} (m : Machine S C SizedOne) where
    -- the answers to a list of calls, and the state after them
    abbrev pub answers : S → List C → List (Reply G)
    answers s [] = []
    answers s (c ∷ cs) = m.reply s c ∷ answers (m.next s c) cs

    abbrev pub reached : S → List C → S
    reached s [] = s
    reached s (c ∷ cs) = reached (m.next s c) cs

    -- none of the calls changes or rewinds
    abbrev pub Rests : S → List C → Type 0
    Rests s [] = Unit {0}
    Rests s (c ∷ cs) = Leaves (m.kind s c) × Rests (m.next s c) cs

    abbrev pub AllSized : List C → Type 0
    AllSized [] = Unit {0}
    AllSized (c ∷ cs) = SizedOne c × AllSized cs

    -- ---- What is fetched.

    -- the answers xs to calls that came to u, where the list of the rules P stood after k sets
    pub record Listed (P : List (Rule G)) (k : ℕ) (xs : List (Reply G)) (u : View G) : Type 0 where
      pub are : sets xs ≡ take (fetches xs) (drop k (stable_sets o w P))
      pub holds : u.rules ≡ P
      pub stands : u.standing ≡ after (k + length (sets xs))

    silent_more : (P : List (Rule G)) (k : ℕ) (r : Reply G) (xs : List (Reply G)) (u : View G) → Silent r → Listed P k xs u → Listed P k (r ∷ xs) u
    silent_more P k r xs u q h =
        let as_many : fetches xs ≡ fetches_in r + fetches xs = omega (arith, q.no_fetch) in
        record {
          are = ap (λ l. l ++ sets xs) q.no_set ∙ h.are ∙ ap (λ (f : ℕ). take f (drop k (stable_sets o w P))) as_many;
          holds = h.holds;
          stands = h.stands ∙ ap (λ (l : List ℕ). after (k + length (l ++ sets xs))) (sym q.no_set);
        }

    ended_more : (P : List (Rule G)) (k : ℕ) (xs : List (Reply G)) (u : View G) → slice_get (stable_sets o w P) k ≡ None → Listed P k xs u → Listed P k (no_more ∷ xs) u
    ended_more P k xs u e h =
        let d = left-none (stable_sets o w P) k e in
        record {
          are = h.are ∙ ap (take (fetches xs)) d ∙ take-nil (fetches xs) ∙ sym (take-nil (1 + fetches xs)) ∙ ap (take (1 + fetches xs)) (sym d);
          holds = h.holds;
          stands = h.stands;
        }

    model_more : (P : List (Rule G)) (k A : ℕ) (gs : List G) (xs : List (Reply G)) (u : View G) → slice_get (stable_sets o w P) k ≡ Some A → Listed P (suc k) xs u → Listed P k (model A gs ∷ xs) u
    model_more P k A gs xs u e h =
        let one_more : suc (fetches xs) ≡ 1 + fetches xs = omega arith in
        let moves : suc k + length (sets xs) ≡ k + suc (length (sets xs)) = omega arith in
        record {
          are = ap (λ (l : List ℕ). A ∷ l) h.are ∙ ap (take (suc (fetches xs))) (sym (left_more (stable_sets o w P) k A e)) ∙ ap (λ (f : ℕ). take f (drop k (stable_sets o w P))) one_more;
          holds = h.holds;
          stands = h.stands ∙ ap after moves;
        }

    -- a call's answer before those of the calls after it
    listed_more : (K : Kind) (P : List (Rule G)) (k : ℕ) (v u : View G) (r : Reply G) (xs : List (Reply G)) (e : View G) →
        Leaves K → Does K v u r → v.rules ≡ P → v.standing ≡ after k →
        ((j : ℕ) → u.rules ≡ P → u.standing ≡ after j → Listed P j xs e) → Listed P k (r ∷ xs) e
    listed_more changing P k v u r xs e l d p t rest = absurd l
    listed_more rewinding P k v u r xs e l d p t rest = absurd l
    listed_more resting P k v u r xs e l d p t rest = silent_more P k r xs e d.2 (rest k (d.0 ∙ p) (d.1 ∙ t))
    listed_more fetching P k v u r xs e l d p t rest = go (slice_get (stable_sets o w P) k) refl
      where
        same : d.count ≡ k
        same = after_same d.count k (sym d.stood ∙ t)

        at_here : slice_get (stable_sets o w v.rules) d.count ≡ slice_get (stable_sets o w P) k
        at_here = ap (λ (Q : List (Rule G)). slice_get (stable_sets o w Q) d.count) p ∙ ap (slice_get (stable_sets o w P)) same

        says : (b : Option ℕ) → slice_get (stable_sets o w P) k ≡ b → fetched o w v.rules b ≡ r
        says b h = sym (d.says ∙ ap (fetched o w v.rules) (at_here ∙ h))

        stands : (b : Option ℕ) → slice_get (stable_sets o w P) k ≡ b → u.standing ≡ after (moved b k)
        stands b h = d.stands ∙ ap (λ (c : Option ℕ). after (moved c d.count)) (at_here ∙ h) ∙ ap (λ (c : ℕ). after (moved b c)) same

        go : (b : Option ℕ) → slice_get (stable_sets o w P) k ≡ b → Listed P k (r ∷ xs) e
        go None h = subst (λ (a : Reply G). Listed P k (a ∷ xs) e) (says None h) (ended_more P k xs e h (rest k (d.holds ∙ p) (stands None h)))
        go (Some A) h =
            subst (λ (a : Reply G). Listed P k (a ∷ xs) e) (says (Some A) h)
            (model_more P k A (map (necessity o w (reduct A v.rules)) (range_with_len 0 w)) xs e h (rest (suc k) (d.holds ∙ p) (stands (Some A) h)))

    pub listed : (P : List (Rule G)) (k : ℕ) (s : S) (cs : List C) → (m.view s).rules ≡ P → (m.view s).standing ≡ after k → Rests s cs →
        Listed P k (answers s cs) (m.view (reached s cs))
    listed P k s [] p t q = record { are = refl; holds = p; stands = t ∙ ap after (omega arith) }
    listed P k s (c ∷ cs) p t q =
        listed_more (m.kind s c) P k (m.view s) (m.view (m.next s c)) (m.reply s c) (answers (m.next s c) cs) (m.view (reached (m.next s c) cs))
        q.0 (m.does s c) p t (λ j p t. listed P j (m.next s c) cs p t q.1)

    module _ (s : S) (c : C) (back : m.kind s c ≡ rewinding) (cs : List C) (quiet : Rests (m.next s c) cs) where
      abbrev P : List (Rule G)
      P = (m.view (m.next s c)).rules

      begun : (m.view (m.next s c)).standing ≡ after 0
      begun = (subst (λ (K : Kind). Does K (m.view s) (m.view (m.next s c)) (m.reply s c)) back (m.does s c)).1

      whole : Listed P 0 (answers (m.next s c) cs) (m.view (reached (m.next s c) cs))
      whole = listed P 0 (m.next s c) cs refl begun quiet

      -- after a rewind and no change, the sets fetched are the lowest stable sets
      pub fetched_are_lowest : sets (answers (m.next s c) cs) ≡ take (fetches (answers (m.next s c) cs)) (stable_sets o w (m.view (m.next s c)).rules)
      fetched_are_lowest = whole.are

      pub then_stands : (k : ℕ) × ((m.view (reached (m.next s c) cs)).standing ≡ after k)
      then_stands = (0 + length (sets (answers (m.next s c) cs)), whole.stands)

      -- a further fetch says "no more" exactly when all were fetched
      pub no_more_iff : (d : C) → m.kind (reached (m.next s c) cs) d ≡ fetching →
          (m.reply (reached (m.next s c) cs) d ≡ no_more)
          ↔ ((A : ℕ) → stable o w (m.view (m.next s c)).rules A ≡ true → Among A (sets (answers (m.next s c) cs)))
      no_more_iff d fetch = (ends, ended)
        where
          e : S
          e = reached (m.next s c) cs

          xs : List (Reply G)
          xs = answers (m.next s c) cs

          L : List ℕ
          L = stable_sets o w P

          f : Fetches (m.view e) (m.view (m.next e d)) (m.reply e d)
          f = subst (λ (K : Kind). Does K (m.view e) (m.view (m.next e d)) (m.reply e d)) fetch (m.does e d)

          so_many : f.count ≡ length (take (fetches xs) L)
          so_many =
              let counts : f.count ≡ 0 + length (sets xs) = after_same f.count (0 + length (sets xs)) (sym f.stood ∙ whole.stands) in
              let long : length (sets xs) ≡ length (take (fetches xs) L) = ap length whole.are in
              omega arith

          up : slice_get (stable_sets o w (m.view e).rules) f.count ≡ slice_get L (length (take (fetches xs) L))
          up = ap (λ (Q : List (Rule G)). slice_get (stable_sets o w Q) f.count) whole.holds ∙ ap (slice_get L) so_many

          says : (b : Option ℕ) → slice_get L (length (take (fetches xs) L)) ≡ b → m.reply e d ≡ fetched o w (m.view e).rules b
          says b h = f.says ∙ ap (fetched o w (m.view e).rules) (up ∙ h)

          in_sets : (A : ℕ) → Among A (take (fetches xs) L) → Among A (sets xs)
          in_sets A i = subst (Among A) (sym whole.are) i

          out-sets : (A : ℕ) → Among A (sets xs) → Among A (take (fetches xs) L)
          out-sets A i = subst (Among A) whole.are i

          ends : m.reply e d ≡ no_more → (A : ℕ) → stable o w P A ≡ true → Among A (sets xs)
          ends r A t = go (slice_get L (length (take (fetches xs) L))) refl
            where
              go : (b : Option ℕ) → slice_get L (length (take (fetches xs) L)) ≡ b → Among A (sets xs)
              go None h = in_sets A (all_taken L (fetches xs) A h (((lists_stable o w P).all A).1 t))
              go (Some B) h = absurd (more_none _ _ (sym (says (Some B) h) ∙ r))

          ended : ((A : ℕ) → stable o w P A ≡ true → Among A (sets xs)) → m.reply e d ≡ no_more
          ended h = go (slice_get L (length (take (fetches xs) L))) refl
            where
              go : (b : Option ℕ) → slice_get L (length (take (fetches xs) L)) ≡ b → m.reply e d ≡ no_more
              go None k = says None k
              go (Some B) k =
                  absurd (not_taken L (fetches xs) B (lists_stable o w P).rising k
                  (out-sets B (h B (((lists_stable o w P).all B).0 (nth_among L (length (take (fetches xs) L)) B k)))))

    -- ---- What is held.

    -- the rules held are lawful after calls where they were before
    pub lawful : (s : S) (cs : List C) (Before : Type 0) → Lawful o w (m.view s).rules Before → Lawful o w (m.view (reached s cs)).rules (Before × AllSized cs)
    lawful s [] B h = record { heads = h.heads; graded = h.graded; fits = λ z. h.fits z.0; bodies = λ z. h.bodies z.0 }
    lawful s (c ∷ cs) B h =
        let n : Lawful o w (m.view (m.next s c)).rules (B × SizedOne c) = record {
          heads = λ r i. ⊎_elim (λ j. h.heads r j) (λ new. new.head) (m.origin s c r i);
          graded = λ r i. ⊎_elim (λ j. h.graded r j) (λ new. new.graded) (m.origin s c r i);
          fits = λ z r i. ⊎_elim (λ j. h.fits z.0 r j) (λ new. (new.head, (new.bodies z.1).0)) (m.origin s c r i);
          bodies = λ z r i. ⊎_elim (λ j. h.bodies z.0 r j) (λ new. new.bodies z.1) (m.origin s c r i);
        } in
        let l = lawful (m.next s c) cs (B × SizedOne c) n in
        record {
          heads = l.heads;
          graded = l.graded;
          fits = λ z. l.fits ((z.0, z.1.0), z.1.1);
          bodies = λ z. l.bodies ((z.0, z.1.0), z.1.1);
        }

    -- ---- What the grades are.

    -- the set and the grades of an answer
    abbrev Told : List (Rule G) → ℕ → List G → Type 0
    Told Q A gs = (stable o w Q A ≡ true) × (gs ≡ map (necessity o w (reduct A Q)) (range_with_len 0 w))

    -- a silent answer is no set with grades
    speaks : (r : Reply G) (A : ℕ) (gs : List G) → Silent r → r ≡ model A gs → ⊥
    speaks r A gs q e = let z : ◌≡◌ {A = ℕ} 0 1 = sym q.no_fetch ∙ ap fetches_in e in omega arith

    told : (K : Kind) (v u : View G) (r : Reply G) (A : ℕ) (gs : List G) → Does K v u r → r ≡ model A gs → Told v.rules A gs
    told changing v u r A gs d e = absurd (speaks r A gs d.1 e)
    told rewinding v u r A gs d e = absurd (speaks r A gs d.2 e)
    told resting v u r A gs d e = absurd (speaks r A gs d.2 e)
    told fetching v u r A gs d e = go (slice_get (stable_sets o w v.rules) d.count) refl (sym d.says ∙ e)
      where
        go : (b : Option ℕ) → slice_get (stable_sets o w v.rules) d.count ≡ b → fetched o w v.rules b ≡ model A gs → Told v.rules A gs
        go None h k = absurd (more_none A gs (sym k))
        go (Some B) h k =
            let same : B ≡ A = cc in
            let list : map (necessity o w (reduct B v.rules)) (range_with_len 0 w) ≡ gs = cc in (
              subst (λ (X : ℕ). stable o w v.rules X ≡ true) same (((lists_stable o w v.rules).all B).0 (nth_among _ d.count B h)),
              sym list ∙ ap (λ (X : ℕ). map (necessity o w (reduct X v.rules)) (range_with_len 0 w)) same,
            )

    module _ (s : S) (c : C) where
      module _ (A : ℕ) (gs : List G) (e : m.reply s c ≡ model A gs) where
        tells : (stable o w (m.view s).rules A ≡ true) × (gs ≡ map (necessity o w (reduct A (m.view s).rules)) (range_with_len 0 w))
        tells = told (m.kind s c) (m.view s) (m.view (m.next s c)) (m.reply s c) A gs (m.does s c) e

        at_atom : (x : ℕ) → x < w → get_or gs x o.bottom ≡ necessity o w (reduct A (m.view s).rules) x
        at_atom x l = ap (λ (l : List G). get_or l x o.bottom) tells.1 ∙ get_or-map-range_with_len (necessity o w (reduct A (m.view s).rules)) 0 w x x o.bottom l (omega arith)

        pub are_necessities : Necessities o w (m.view s).rules A gs
        are_necessities = record {
          stands = tells.0;
          long = ap length tells.1 ∙ length-map-range_with_len (necessity o w (reduct A (m.view s).rules)) 0 w;
          least = λ x l.
              subst (λ (g : G). LeastOf o w g (λ B. not (has B x)) (objection o w (reduct A (m.view s).rules)))
              (sym (at_atom x l)) (necessity_least o w (reduct A (m.view s).rules) x);
        }

        pub are_readings : Fits w (m.view s).rules → (x : ℕ) → x < w → get_or gs x o.bottom ≡ reading o w (m.view s).rules A x
        unfolding reading
        are_readings fits x l = at_atom x l ∙ necessity_is_grade o w (reduct A (m.view s).rules) (reduct-fits w A (m.view s).rules fits) x l

      module _ (g : G) (e : m.reply s c ≡ grade g) where
        pub is_least_objection : LeastOf o w g (λ A. true) (λ A. objection o w (reduct A (m.view s).rules) A)
        is_least_objection =
            subst (λ (x : G). LeastOf o w x (λ A. true) (λ A. objection o w (reduct A (m.view s).rules) A))
            (sym (m.grades s c g e)) (conflict_least o w (m.view s).rules)

        pub bottom_iff_stable : Fits w (m.view s).rules → Graded o (m.view s).rules →
            (g ≡ o.bottom) ↔ ((A : ℕ) × (A < 2 ^ w) × (stable o w (m.view s).rules A ≡ true))
        bottom_iff_stable fits graded = (
          λ b. free_of_conflict o w (m.view s).rules fits graded (sym (m.grades s c g e) ∙ b),
          λ a. m.grades s c g e ∙ stable_frees o w (m.view s).rules fits a.0 a.2,
        )
