-- The reference as a machine, and the laws over its calls.
use Rattle.std.proofs.Common.{◌≡◌, ℕ, zero, suc, ◌^◌, ◌<◌, ◌≤◌, Bool, true, false, cond, eqb, ltb, ◌⊎◌, ◌↔◌, List, [], ◌∷◌, map, length, take, set, replicate, Some, None, Option, sym, refl, ap, subst, inl, inr, ⊎_elim}
use mathlib.Core.Bool.{false≢true}
use Rattle.std.proofs.lemmas.Bool.{ltb-true, le-ltb}
use Rattle.scale.specs.Laws.{Order, above}
use Rattle.scale.specs.Refusals.{number_of}
use Rattle.scale.specs.declared.refusal.Refusal.TheVariants.{NoSuchPlace, PlaceTaken, NoSuchAtom, BottomGrade, ShortGradeBuffer}
use Rattle.semantics.specs.Rules.{Rule, Among, conflict, stable, stable_sets}
use Rattle.rulebase.specs.declared.call.Call.{Call}
use Rattle.rulebase.specs.declared.call.Call.TheVariants.{Enter, Strike, Cut, Mend, Rewind, Fetch, Conflict}
use Rattle.rulebase.specs.Reference.{State, Standing, stale, after, Reply, refused, done, emptied, mended, model, no_more, grade, held, at, is_empty, cut_place, refusal, upcoming, fetched, answer, acted, reply, next, replies, final, opened}
use Rattle.rulebase.specs.Laws.{fetching, resting, kind_of, kind_in, Quiet, sets, fetches, SizedCall, Sized, Lawful, FetchedAreLowestStable, NoMoreIffNoneLeft, HeldAreLawful, GradesAreNecessities, GradesAreReadings, ConflictIsLeastObjection, BottomConflictIffSomeStable}
use Rattle.rulebase.proofs.Machines.{View, Fetches, Does, Comes, Machine, answers, reached, Rests, AllSized, fetched_are_lowest, then_stands, no_more_iff, lawful, are_necessities, are_readings, is_least_objection, bottom_iff_stable}

-- ---- Where a rule that is held comes from.

module _ {G : Type 0} where
  behind : (p : Option (Rule G)) (ps : List (Option (Rule G))) (r : Rule G) → Among r (held ps) → Among r (held (p ∷ ps))
  behind None ps r i = i
  behind (Some a) ps r i = inr i

  set-origin : (ps : List (Option (Rule G))) (k : ℕ) (q : Option (Rule G)) (r : Rule G) → Among r (held (set ps k q)) → Among r (held ps) ⊎ (q ≡ Some r)
  set-origin [] k q r i = absurd i
  set-origin (p ∷ ps) zero None r i = inl (behind p ps r i)
  set-origin (p ∷ ps) zero (Some a) r (inl e) = inr (ap {B = Option (Rule G)} Some (sym e))
  set-origin (p ∷ ps) zero (Some a) r (inr i) = inl (behind p ps r i)
  set-origin (None ∷ ps) (suc k) q r i = set-origin ps k q r i
  set-origin (Some a ∷ ps) (suc k) q r (inl e) = inl (inl e)
  set-origin (Some a ∷ ps) (suc k) q r (inr i) = ⊎_elim (λ j. inl (inr j)) (λ e. inr e) (set-origin ps k q r i)

  none-held : (n : ℕ) (r : Rule G) → Among r (held (replicate n None)) → ⊥
  none-held zero r i = i
  none-held (suc n) r i = none-held n r i

-- where nothing stops an entry, the head is an atom and the grade is above the bottom
entered : (a b c d : Bool) → eqb (cond a (cond b (cond c (cond d 0 (number_of BottomGrade)) (number_of NoSuchAtom)) (number_of PlaceTaken)) (number_of NoSuchPlace)) 0 ≡ true → (c ≡ true) × (d ≡ true)
entered true true true true t = (refl, refl)
entered true true true false t = absurd (false≢true t)
entered true true false d t = absurd (false≢true t)
entered true false c d t = absurd (false≢true t)
entered false b c d t = absurd (false≢true t)

module _ {G : Type 0} (o : Order G) (w : ℕ) where
  cut-origin : (g : G) (ps : List (Option (Rule G))) (r : Rule G) → Among r (held (map (cut_place o w g) ps)) → Among r (held ps)
  cut-origin g [] r i = i
  cut-origin g (None ∷ ps) r i = cut-origin g ps r i
  cut-origin g (Some a ∷ ps) r i = go (o.at_most a.grade g) i (cut-origin g ps r)
    where
      go : (b : Bool) → Among r (held (cond b None (Some a) ∷ map (cut_place o w g) ps)) → (Among r (held (map (cut_place o w g) ps)) → Among r (held ps)) → Among r (held (Some a ∷ ps))
      go true j rest = inr (rest j)
      go false (inl e) rest = inl e
      go false (inr j) rest = inr (rest j)

  acted-origin : (s : State G) (c : Call G) → eqb (refusal o w s c) 0 ≡ true → (r : Rule G) → Among r (held (acted o w s c).places) → Among r (held s.places) ⊎ Comes o w r (SizedCall w c)
  acted-origin s (Enter place head pos neg g) t r i =
      ⊎_elim (λ j. inl j) (λ e. inr (subst (λ q. Comes o w q ((pos < 2 ^ w) × (neg < 2 ^ w))) (cc) new)) (set-origin s.places place (Some made) r i)
    where
      made : Rule G
      made = record { head = head; pos = pos; neg = neg; grade = g }

      asked : (ltb head w ≡ true) × (above o g ≡ true)
      asked = entered (ltb place (length s.places)) (is_empty (at s.places place)) (ltb head w) (above o g) t

      new : Comes o w made ((pos < 2 ^ w) × (neg < 2 ^ w))
      new = record { head = ltb-true head w asked.0; graded = asked.1; bodies = λ z. z }
  acted-origin s (Strike place) t r i = ⊎_elim (λ j. inl j) (λ e. absurd (gone e)) (set-origin s.places place None r i)
    where
      gone : None ≡ Some r → ⊥
      gone e = let z : ◌≡◌ {A = Bool} true false = ap is_empty e in false≢true (sym z)
  acted-origin s (Cut g) t r i = inl (cut-origin g s.places r i)
  acted-origin s Mend t r i = inl (cut-origin (conflict o w (held s.places)) s.places r i)
  acted-origin s Rewind t r i = inl i
  acted-origin s (Fetch n) t r i = inl i
  acted-origin s Conflict t r i = inl i

  -- ---- What a call does and tells.

  -- an answer that is a grade tells the conflict of the rules P
  abbrev Tells : List (Rule G) → Reply G → Type 0
  Tells P (refused n) = Unit {0}
  Tells P done = Unit {0}
  Tells P (emptied n) = Unit {0}
  Tells P (mended g n) = Unit {0}
  Tells P (model A grades) = Unit {0}
  Tells P no_more = Unit {0}
  Tells P (grade g) = g ≡ conflict o w P

  -- the view of a state
  abbrev pub seen : State G → View G
  seen s = record { rules = held s.places; standing = s.standing }

  fetch_does : (ps : List (Option (Rule G))) (st : Standing) (n : ℕ) →
      let s : State G = record { places = ps; standing = st } in
      eqb (refusal o w s (Fetch n)) 0 ≡ true → Fetches o w (seen s) (seen (acted o w s (Fetch n))) (answer o w s (Fetch n))
  fetch_does ps stale n t = absurd (false≢true t)
  fetch_does ps (after k) n t = record { count = k; stood = refl; holds = refl; stands = refl; says = refl }

  acted-does : (s : State G) (c : Call G) → eqb (refusal o w s c) 0 ≡ true → Does o w (kind_of c) (seen s) (seen (acted o w s c)) (answer o w s c)
  acted-does s (Enter place head pos neg g) t = (refl, record { no_set = refl; no_fetch = refl })
  acted-does s (Strike place) t = (refl, record { no_set = refl; no_fetch = refl })
  acted-does s (Cut g) t = (refl, record { no_set = refl; no_fetch = refl })
  acted-does s Mend t = (refl, record { no_set = refl; no_fetch = refl })
  acted-does s Rewind t = (refl, refl, record { no_set = refl; no_fetch = refl })
  acted-does s (Fetch n) t = fetch_does s.places s.standing n t
  acted-does s Conflict t = (refl, refl, record { no_set = refl; no_fetch = refl })

  answer_tells : (s : State G) (c : Call G) → Tells (held s.places) (answer o w s c)
  answer_tells s (Enter place head pos neg g) = tt
  answer_tells s (Strike place) = tt
  answer_tells s (Cut g) = tt
  answer_tells s Mend = tt
  answer_tells s Rewind = tt
  answer_tells s (Fetch n) = go (upcoming o w s)
    where
      go : (b : Option ℕ) → Tells (held s.places) (fetched o w (held s.places) b)
      go None = tt
      go (Some A) = tt
  answer_tells s Conflict = refl

  -- ---- The interface: here alone `reply` and `next` are opened.

  pub does : (s : State G) (c : Call G) → Does o w (kind_in o w s c) (seen s) (seen (next o w s c)) (reply o w s c)
  unfolding reply next
  does s c = go (eqb (refusal o w s c) 0) refl
    where
      go : (b : Bool) → eqb (refusal o w s c) 0 ≡ b → Does o w (cond b (kind_of c) resting) (seen s) (seen (cond b (acted o w s c) s)) (cond b (answer o w s c) (refused (refusal o w s c)))
      go true t = acted-does s c t
      go false t = (refl, refl, record { no_set = refl; no_fetch = refl })

  pub origin : (s : State G) (c : Call G) (r : Rule G) → Among r (held (next o w s c).places) → Among r (held s.places) ⊎ Comes o w r (SizedCall w c)
  unfolding next
  origin s c r i = go (eqb (refusal o w s c) 0) refl i
    where
      go : (b : Bool) → eqb (refusal o w s c) 0 ≡ b → Among r (held (cond b (acted o w s c) s).places) → Among r (held s.places) ⊎ Comes o w r (SizedCall w c)
      go true t j = acted-origin s c t r j
      go false t j = inl j

  tells : (s : State G) (c : Call G) → Tells (held s.places) (reply o w s c)
  unfolding reply
  tells s c = go (eqb (refusal o w s c) 0)
    where
      go : (b : Bool) → Tells (held s.places) (cond b (answer o w s c) (refused (refusal o w s c)))
      go true = answer_tells s c
      go false = tt

  pub grades : (s : State G) (c : Call G) (g : G) → reply o w s c ≡ grade g → g ≡ conflict o w (held s.places)
  grades s c g e = subst (Tells (held s.places)) e (tells s c)

  abbrev pub reference : Machine o w (State G) (Call G) (SizedCall w)
  reference = record {
    reply = reply o w;
    next = next o w;
    kind = kind_in o w;
    view = seen;
    does = does;
    origin = origin;
    grades = grades;
  }

  -- ---- Its runs are the machine's.

  same-replies : (s : State G) (cs : List (Call G)) → answers o w reference s cs ≡ replies o w s cs
  same-replies s [] = refl
  same-replies s (c ∷ cs) = ap (λ (xs : List (Reply G)). reply o w s c ∷ xs) (same-replies (next o w s c) cs)

  same-final : (s : State G) (cs : List (Call G)) → reached o w reference s cs ≡ final o w s cs
  same-final s [] = refl
  same-final s (c ∷ cs) = same-final (next o w s c) cs

  rests : (s : State G) (cs : List (Call G)) → Quiet o w s cs → Rests o w reference s cs
  rests s [] q = tt
  rests s (c ∷ cs) q = (q.0, rests (next o w s c) cs q.1)

  all_sized : (cs : List (Call G)) → Sized w cs → AllSized o w reference cs
  all_sized [] z = tt
  all_sized (c ∷ cs) z = (z.0, all_sized cs z.1)

  -- a fetch with a buffer that is long enough is refused only where the list is stale
  fetch_kind : (s : State G) (k room : ℕ) → s.standing ≡ after k → w ≤ room → kind_in o w s (Fetch room) ≡ fetching
  fetch_kind s k room e l =
      subst (λ (st : Standing). kind_in o w (record { places = s.places; standing = st }) (Fetch room) ≡ fetching) (sym e)
      (ap (λ (b : Bool). cond (eqb (cond b (number_of ShortGradeBuffer) 0) 0) fetching resting) (le-ltb room w l))

-- ---- The laws.

pub lowest-stable : (G : Type 0) → FetchedAreLowestStable G
lowest-stable G o w n before since q =
    let a = final o w (opened o w n) before in
    let s = next o w a Rewind in
    subst (λ (xs : List (Reply G)). sets xs ≡ take (fetches xs) (stable_sets o w (held s.places))) (same-replies o w s since)
    (fetched_are_lowest o w (reference o w) a Rewind refl since (rests o w s since q))

pub none_left : (G : Type 0) → NoMoreIffNoneLeft G
none_left G o w n before since room l q =
    let a = final o w (opened o w n) before in
    let s = next o w a Rewind in
    let rest = rests o w s since q in
    let e = reached o w (reference o w) s since in
    let k = then_stands o w (reference o w) a Rewind refl since rest in
    let r = no_more_iff o w (reference o w) a Rewind refl since rest (Fetch room) (fetch_kind o w e k.0 room k.1 l) in
    subst (λ (u : State G). (reply o w u (Fetch room) ≡ no_more) ↔ ((A : ℕ) → stable o w (held s.places) A ≡ true → Among A (sets (replies o w s since)))) (same-final o w s since)
    (subst (λ (xs : List (Reply G)). (reply o w e (Fetch room) ≡ no_more) ↔ ((A : ℕ) → stable o w (held s.places) A ≡ true → Among A (sets xs))) (same-replies o w s since) r)

pub held-lawful : (G : Type 0) → HeldAreLawful G
held-lawful G o w n calls =
    let start : Lawful o w (held (opened o w n).places) (Unit {0}) = record {
      heads = λ r i. absurd (none-held n r i);
      graded = λ r i. absurd (none-held n r i);
      fits = λ z r i. absurd (none-held n r i);
      bodies = λ z r i. absurd (none-held n r i);
    } in
    let l = lawful o w (reference o w) (opened o w n) calls (Unit {0}) start in
    subst (λ (s : State G). Lawful o w (held s.places) (Sized w calls)) (same-final o w (opened o w n) calls)
    (record {
      heads = l.heads;
      graded = l.graded;
      fits = λ z. l.fits (tt, all_sized o w calls z);
      bodies = λ z. l.bodies (tt, all_sized o w calls z);
    })

pub grades-necessities : (G : Type 0) → GradesAreNecessities G
grades-necessities G o w n before c A grades e = are_necessities o w (reference o w) (final o w (opened o w n) before) c A grades e

pub grades_readings : (G : Type 0) → GradesAreReadings G
grades_readings G o w n before c A grades e z =
    are_readings o w (reference o w) (final o w (opened o w n) before) c A grades e ((held-lawful G o w n before).fits z)

pub conflict-objection : (G : Type 0) → ConflictIsLeastObjection G
conflict-objection G o w n before c g e = is_least_objection o w (reference o w) (final o w (opened o w n) before) c g e

pub conflict-bottom : (G : Type 0) → BottomConflictIffSomeStable G
conflict-bottom G o w n before c g e z =
    let l = held-lawful G o w n before in
    bottom_iff_stable o w (reference o w) (final o w (opened o w n) before) c g e (l.fits z) l.graded
