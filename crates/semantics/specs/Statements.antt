-- The theorems. Each is named by the contract of a function of src/theory.rt, so that the crate fails without its proof.
use Rattle.std.specs.Prelude.{◌≡◌, ℕ, ◌/◌, ◌%◌, ◌^◌, ◌<◌, Bool, true, false, not, ◌⊎◌, ◌↔◌, List, [], ◌∷◌, map, ◌==◌, ◌≢◌}
use Rattle.scale.specs.Laws.{Order, above}
use Rattle.semantics.specs.Sets.{has, within, disjoint, adding, others, collect, In, Out, Sub, Apart}
use Rattle.semantics.specs.Counting.{tally}
use Rattle.semantics.specs.Rules.{Rule, Among, positive, reduct, breaks, founded, step, steps, consequences, support, reading, stable, stable_sets, objection, necessity, conflict}
use Rattle.semantics.specs.Founded.{Founded}
use Rattle.semantics.specs.Plain.{truth}

-- the rules speak of atoms below w alone
abbrev pub Fits : {G : Type 0} → ℕ → List (Rule G) → Type 0
Fits {G} w P = (r : Rule G) → Among r P → (r.head < w) × (r.pos < 2 ^ w)

-- no rule has the bottom grade
abbrev pub Graded : {G : Type 0} → Order G → List (Rule G) → Type 0
Graded {G} o P = (r : Rule G) → Among r P → above o r.grade ≡ true

-- each number of the list is less than those after it
abbrev pub Rising : List ℕ → Type 0
Rising [] = Unit {0}
Rising (x ∷ xs) = ((y : ℕ) → Among y xs → x < y) × Rising xs

-- how many atoms below w the set A has
unfoldable pub size : ℕ → ℕ → ℕ
size w A = tally w (has A)

-- the rule, held true
abbrev pub as_true : {G : Type 0} → Rule G → Rule Bool
as_true r = record { head = r.head; pos = r.pos; neg = r.neg; grade = true }

-- ---- Sets, atom by atom.

-- the test `within` says that every atom of A is one of B
abbrev pub WithinSays : Type 0
WithinSays = (A B : ℕ) → (within A B ≡ true) ↔ Sub A B

-- the test `disjoint` says that A and B share no atom
abbrev pub DisjointSays : Type 0
DisjointSays = (A B : ℕ) → (disjoint A B ≡ true) ↔ Apart A B

-- sets with the same atoms are the same number
abbrev pub SameAtoms : Type 0
SameAtoms = (A B : ℕ) → ((x : ℕ) → has A x ≡ has B x) → A ≡ B

-- A has the atom x exactly where the weight 2 ^ x is in the number A
abbrev pub HasIsWeight : Type 0
HasIsWeight = (A x : ℕ) → has A x ≡ (A / 2 ^ x % 2 == 1)

-- adding k to A leaves the atoms of A, and k
abbrev pub AddingSays : Type 0
AddingSays = (A k x : ℕ) → In x (adding A k) ↔ (In x A ⊎ (x ≡ k))

-- the others of A are the atoms below w that A has not
abbrev pub OthersSays : Type 0
OthersSays = (w A x : ℕ) → A < 2 ^ w → In x (others w A) ↔ ((x < w) × Out x A)

-- collecting gives the atoms below n that pass the test
abbrev pub CollectSays : Type 0
CollectSays = (n : ℕ) (p : ℕ → Bool) (x : ℕ) → In x (collect n p) ↔ ((x < n) × (p x ≡ true))

module _ {G : Type 0} (o : Order G) (w : ℕ) where
  -- g is the least of f over the sets of atoms below w that pass the test: at most each, and one of them; the top where none passes
  pub record LeastOf (g : G) (test : ℕ → Bool) (f : ℕ → G) : Type 0 where
    pub below : (A : ℕ) → A < 2 ^ w → test A ≡ true → o.at_most g (f A) ≡ true
    pub attained : (B : ℕ) → B < 2 ^ w → test B ≡ true → (A : ℕ) × (A < 2 ^ w) × (test A ≡ true) × (f A ≡ g)
    pub none : ((A : ℕ) → A < 2 ^ w → test A ≢ true) → g ≡ o.top

  -- a step alters nothing in c, and c is at most every graded set that no step raises
  pub record LeastFixpoint (P : List (Rule G)) (c : ℕ → G) : Type 0 where
    pub fixed : (x : ℕ) → step o w P c x ≡ c x
    pub least : (d : ℕ → G) → ((x : ℕ) → o.at_most (step o w P d x) (d x) ≡ true) → (x : ℕ) → o.at_most (c x) (d x) ≡ true

  -- the list has the stable sets and nothing else, each once, rising
  pub record ListsStable (P : List (Rule G)) (sets : List ℕ) : Type 0 where
    pub all : (A : ℕ) → Among A sets ↔ (stable o w P A ≡ true)
    pub rising : Rising sets

module _ (G : Type 0) where
  -- ---- Reduct and step.

  -- a rule of the reduct by A is a rule whose negative body shares no atom with A, without that body
  abbrev pub ReductSays : Type 0
  ReductSays =
      (A : ℕ) (P : List (Rule G)) (r : Rule G) →
      Among r (reduct A P) ↔ ((s : Rule G) × Among s P × Apart s.neg A × (r ≡ positive s))

  -- grades in order stay in order under a step
  abbrev pub StepIsMonotone : Type 0
  StepIsMonotone =
      (o : Order G) (w : ℕ) (P : List (Rule G)) (c d : ℕ → G) →
      ((x : ℕ) → o.at_most (c x) (d x) ≡ true) → (x : ℕ) → o.at_most (step o w P c x) (step o w P d x) ≡ true

  -- a further step alters nothing in the consequences, and nothing smaller is closed under the step
  abbrev pub ConsequencesAreLeastFixpoint : Type 0
  ConsequencesAreLeastFixpoint =
      (o : Order G) (w : ℕ) (P : List (Rule G)) → Fits w P → LeastFixpoint o w P (consequences o w P)

  -- a reading is fixed after as many steps as it has atoms, and so are the consequences of any rules
  abbrev pub ReadingSettles : Type 0
  ReadingSettles =
      (o : Order G) (w : ℕ) (P : List (Rule G)) → Fits w P → (A x : ℕ) →
      steps o w (reduct A P) (size w (support o w (reading o w P A))) x ≡ reading o w P A x

  abbrev pub ConsequencesSettle : Type 0
  ConsequencesSettle =
      (o : Order G) (w : ℕ) (P : List (Rule G)) → Fits w P → (x : ℕ) →
      steps o w P (size w (support o w (consequences o w P))) x ≡ consequences o w P x

  -- ---- Founded and stable sets.

  -- the test `founded` decides `Founded`
  abbrev pub FoundedTestDecides : Type 0
  FoundedTestDecides = (w : ℕ) (P : List (Rule G)) → Fits w P → (A : ℕ) → (founded w P A ≡ true) ↔ Founded P A

  -- a set is stable exactly where it is founded in the reduct by it and breaks no rule of that reduct
  abbrev pub StableIffFoundedUnbroken : Type 0
  StableIffFoundedUnbroken =
      (o : Order G) (w : ℕ) (P : List (Rule G)) → Fits w P → Graded o P → (A : ℕ) →
      (stable o w P A ≡ true) ↔ ((A < 2 ^ w) × Founded (reduct A P) A × ((r : Rule G) → Among r (reduct A P) → breaks A r ≡ false))

  -- a graded set equals the consequences of the reduct by its support exactly where its support is stable and it is the reading of its support
  abbrev pub StableReadingIsFixpoint : Type 0
  StableReadingIsFixpoint =
      (o : Order G) (w : ℕ) (P : List (Rule G)) (c : ℕ → G) →
      ((x : ℕ) → c x ≡ consequences o w (reduct (support o w c) P) x)
      ↔ ((stable o w P (support o w c) ≡ true) × ((x : ℕ) → c x ≡ reading o w P (support o w c) x))

  -- a set is stable exactly where it is the support of such a graded set
  abbrev pub StableIffSupport : Type 0
  StableIffSupport =
      (o : Order G) (w : ℕ) (P : List (Rule G)) (A : ℕ) →
      (stable o w P A ≡ true) ↔ ((c : ℕ → G) × (support o w c ≡ A) × ((x : ℕ) → c x ≡ consequences o w (reduct (support o w c) P) x))

  -- the list `stable_sets` has exactly the stable sets, each once, rising
  abbrev pub ListedAreAllStable : Type 0
  ListedAreAllStable = (o : Order G) (w : ℕ) (P : List (Rule G)) → ListsStable o w P (stable_sets o w P)

  -- with every grade above the bottom, the stable sets are those of the same rules held true: no grade and no scale alters them
  abbrev pub StableOnAnyScale : Type 0
  StableOnAnyScale =
      (o : Order G) (w : ℕ) (P : List (Rule G)) → Fits w P → Graded o P → (A : ℕ) →
      stable o w P A ≡ stable truth w (map as_true P) A

  -- ---- Objection, necessity, conflict.

  -- nothing is held against A, in the reduct by it, exactly where it is stable
  abbrev pub BottomObjectionIffStable : Type 0
  BottomObjectionIffStable =
      (o : Order G) (w : ℕ) (P : List (Rule G)) → Fits w P → Graded o P → (A : ℕ) → A < 2 ^ w →
      (objection o w (reduct A P) A ≡ o.bottom) ↔ (stable o w P A ≡ true)

  -- for rules without negative bodies: exactly where it is the support of the consequences
  abbrev pub BottomObjectionIffSupport : Type 0
  BottomObjectionIffSupport =
      (o : Order G) (w : ℕ) (P : List (Rule G)) → Fits w P → Graded o P → (A : ℕ) → A < 2 ^ w →
      (objection o w P A ≡ o.bottom) ↔ (A ≡ support o w (consequences o w P))

  -- the necessity of an atom is its grade in the consequences
  abbrev pub NecessityIsConsequence : Type 0
  NecessityIsConsequence =
      (o : Order G) (w : ℕ) (P : List (Rule G)) → Fits w P → (x : ℕ) → x < w → necessity o w P x ≡ consequences o w P x

  -- the necessity of x is the least objection among the sets without x
  abbrev pub NecessityIsLeastObjection : Type 0
  NecessityIsLeastObjection =
      (o : Order G) (w : ℕ) (P : List (Rule G)) (x : ℕ) → LeastOf o w (necessity o w P x) (λ A. not (has A x)) (objection o w P)

  -- an atom's grade in a reading is the least objection, in the reduct, among the sets without the atom
  abbrev pub GradesAreNecessities : Type 0
  GradesAreNecessities =
      (o : Order G) (w : ℕ) (P : List (Rule G)) → Fits w P → (A x : ℕ) → x < w →
      LeastOf o w (reading o w P A x) (λ B. not (has B x)) (objection o w (reduct A P))

  -- the conflict is the least objection among all sets, to each in the reduct by it
  abbrev pub ConflictIsLeastObjection : Type 0
  ConflictIsLeastObjection =
      (o : Order G) (w : ℕ) (P : List (Rule G)) → LeastOf o w (conflict o w P) (λ A. true) (λ A. objection o w (reduct A P) A)

  -- the conflict is the bottom exactly where some set is stable
  abbrev pub BottomConflictIffSomeStable : Type 0
  BottomConflictIffSomeStable =
      (o : Order G) (w : ℕ) (P : List (Rule G)) → Fits w P → Graded o P →
      (conflict o w P ≡ o.bottom) ↔ ((A : ℕ) × (A < 2 ^ w) × (stable o w P A ≡ true))

  -- the conflict is the bottom or the grade of a rule
  abbrev pub ConflictIsHeldGrade : Type 0
  ConflictIsHeldGrade =
      (o : Order G) (w : ℕ) (P : List (Rule G)) →
      (conflict o w P ≡ o.bottom) ⊎ ((r : Rule G) × Among r P × (r.grade ≡ conflict o w P))
