-- Laws over every list of calls: what is fetched, what is held, and what the grades mean.
use Rattle.std.specs.Prelude.{◌≡◌, ℕ, ◌+◌, ◌^◌, ◌<◌, ◌≤◌, true, cond, not, ◌↔◌, List, [], ◌∷◌, ◌++◌, length, take, ◌==◌, slice_index_or}
use Rattle.scale.specs.Laws.{Order}
use Rattle.semantics.specs.Sets.{has}
use Rattle.semantics.specs.Rules.{Rule, Among, reduct, reading, stable, stable_sets, objection}
use Rattle.semantics.specs.Statements.{Fits, Graded, LeastOf}
use Rattle.rulebase.specs.declared.call.Call.{Call}
use Rattle.rulebase.specs.declared.call.Call.TheVariants.{Enter, Strike, Cut, Mend, Rewind, Fetch, Conflict}
use Rattle.rulebase.specs.Reference.{State, Reply, refused, done, emptied, mended, model, no_more, grade, held, refusal, reply, next, replies, final, opened}

-- What a call does to the list of stable sets: a change makes it stale, a rewind begins it, a fetch goes on in it, any other leaves it.
pub data Kind : Type 0 where
  changing rewinding fetching resting : Kind

-- the kind neither changes nor rewinds
abbrev pub Leaves : Kind → Type 0
Leaves changing = ⊥
Leaves rewinding = ⊥
Leaves fetching = Unit {0}
Leaves resting = Unit {0}

module _ {G : Type 0} where
  -- the kind of a call that is not refused
  abbrev pub kind_of : Call G → Kind
  kind_of (Enter place head pos neg g) = changing
  kind_of (Strike place) = changing
  kind_of (Cut g) = changing
  kind_of Mend = changing
  kind_of Rewind = rewinding
  kind_of (Fetch n) = fetching
  kind_of Conflict = resting

  -- the set that an answer hands out, where it does
  abbrev pub sets_in : Reply G → List ℕ
  sets_in (refused n) = []
  sets_in done = []
  sets_in (emptied n) = []
  sets_in (mended g n) = []
  sets_in (model A grades) = A ∷ []
  sets_in no_more = []
  sets_in (grade g) = []

  -- 1 for an answer to a fetch that was not refused
  abbrev pub fetches_in : Reply G → ℕ
  fetches_in (refused n) = 0
  fetches_in done = 0
  fetches_in (emptied n) = 0
  fetches_in (mended g n) = 0
  fetches_in (model A grades) = 1
  fetches_in no_more = 1
  fetches_in (grade g) = 0

  -- the sets among the answers, in their order
  abbrev pub sets : List (Reply G) → List ℕ
  sets [] = []
  sets (r ∷ rest) = sets_in r ++ sets rest

  -- how many fetches were not refused
  abbrev pub fetches : List (Reply G) → ℕ
  fetches [] = 0
  fetches (r ∷ rest) = fetches_in r + fetches rest

  -- the bodies that a call hands in are sets of atoms below w
  abbrev pub SizedCall : ℕ → Call G → Type 0
  SizedCall w (Enter place head pos neg g) = (pos < 2 ^ w) × (neg < 2 ^ w)
  SizedCall w (Strike place) = Unit {0}
  SizedCall w (Cut g) = Unit {0}
  SizedCall w Mend = Unit {0}
  SizedCall w Rewind = Unit {0}
  SizedCall w (Fetch n) = Unit {0}
  SizedCall w Conflict = Unit {0}

  abbrev pub Sized : ℕ → List (Call G) → Type 0
  Sized w [] = Unit {0}
  Sized w (c ∷ cs) = SizedCall w c × Sized w cs

module _ {G : Type 0} (o : Order G) (w : ℕ) where
  -- the kind of a call in a state: a refused call leaves the list
  abbrev pub kind_in : State G → Call G → Kind
  kind_in s c = cond (refusal o w s c == 0) (kind_of c) resting

  -- among the calls from s on there is no rewind, and no change that is accepted
  abbrev pub Quiet : State G → List (Call G) → Type 0
  Quiet s [] = Unit {0}
  Quiet s (c ∷ cs) = Leaves (kind_in s c) × Quiet (next o w s c) cs

  -- the rules speak of atoms below w, and no grade is the bottom; `Sizes` says that the bodies that came in were below 2 ^ w
  pub record Lawful (P : List (Rule G)) (Sizes : Type 0) : Type 0 where
    pub heads : (r : Rule G) → Among r P → r.head < w
    pub graded : Graded o P
    pub fits : Sizes → Fits w P
    pub bodies : Sizes → (r : Rule G) → Among r P → (r.pos < 2 ^ w) × (r.neg < 2 ^ w)

  -- A is stable, and each atom's grade is the least objection, in the reduct by A, among all sets without the atom.
  pub record Necessities (P : List (Rule G)) (A : ℕ) (grades : List G) : Type 0 where
    pub stands : stable o w P A ≡ true
    pub long : length grades ≡ w
    pub least : (x : ℕ) → x < w → LeastOf o w (slice_index_or grades x o.bottom) (λ B. not (has B x)) (objection o w (reduct A P))

module _ (G : Type 0) where
  -- Since the last rewind, with no change accepted after it, the sets fetched are the lowest stable sets, rising:
  -- as many as there were fetches that were not refused, or all of them.
  abbrev pub FetchedAreLowestStable : Type 0
  FetchedAreLowestStable =
      (o : Order G) (w n : ℕ) (before since : List (Call G)) →
      let s : State G = next o w (final o w (opened o w n) before) Rewind in
      Quiet o w s since →
      sets (replies o w s since) ≡ take (fetches (replies o w s since)) (stable_sets o w (held s.places))

  -- Then a fetch with a buffer that is long enough says "no more" exactly when every stable set has been fetched.
  abbrev pub NoMoreIffNoneLeft : Type 0
  NoMoreIffNoneLeft =
      (o : Order G) (w n : ℕ) (before since : List (Call G)) (room : ℕ) → w ≤ room →
      let s : State G = next o w (final o w (opened o w n) before) Rewind in
      Quiet o w s since →
      (reply o w (final o w s since) (Fetch room) ≡ no_more)
      ↔ ((A : ℕ) → stable o w (held s.places) A ≡ true → Among A (sets (replies o w s since)))

  -- After any calls the rules held have heads below w and grades above the bottom, and bodies below 2 ^ w where all that came in were.
  abbrev pub HeldAreLawful : Type 0
  HeldAreLawful =
      (o : Order G) (w n : ℕ) (calls : List (Call G)) → Lawful o w (held (final o w (opened o w n) calls).places) (Sized w calls)

  -- Whenever an answer is a set with grades, the set is stable for the rules then held, and the grades are necessities.
  abbrev pub GradesAreNecessities : Type 0
  GradesAreNecessities =
      (o : Order G) (w n : ℕ) (before : List (Call G)) (c : Call G) (A : ℕ) (grades : List G) →
      let s : State G = final o w (opened o w n) before in
      reply o w s c ≡ model A grades → Necessities o w (held s.places) A grades

  -- And they are the reading of that set.
  abbrev pub GradesAreReadings : Type 0
  GradesAreReadings =
      (o : Order G) (w n : ℕ) (before : List (Call G)) (c : Call G) (A : ℕ) (grades : List G) →
      let s : State G = final o w (opened o w n) before in
      reply o w s c ≡ model A grades → Sized w before →
      (x : ℕ) → x < w → slice_index_or grades x o.bottom ≡ reading o w (held s.places) A x

  -- Whenever an answer is a grade, it is the least objection among all sets, to each in the reduct by it, for the rules then held.
  abbrev pub ConflictIsLeastObjection : Type 0
  ConflictIsLeastObjection =
      (o : Order G) (w n : ℕ) (before : List (Call G)) (c : Call G) (g : G) →
      let s : State G = final o w (opened o w n) before in
      reply o w s c ≡ grade g → LeastOf o w g (λ A. true) (λ A. objection o w (reduct A (held s.places)) A)

  -- And it is the bottom exactly where some set is stable.
  abbrev pub BottomConflictIffSomeStable : Type 0
  BottomConflictIffSomeStable =
      (o : Order G) (w n : ℕ) (before : List (Call G)) (c : Call G) (g : G) →
      let s : State G = final o w (opened o w n) before in
      reply o w s c ≡ grade g → Sized w before →
      (g ≡ o.bottom) ↔ ((A : ℕ) × (A < 2 ^ w) × (stable o w (held s.places) A ≡ true))
