-- The reference that the rule base is held to. It keeps a rule or none for each place, and tries all sets.
use Rattle.std.specs.Prelude.{ℕ, suc, ◌+◌, Bool, true, false, cond, List, [], ◌∷◌, map, length, replicate, Some, None, Option, ◌==◌, nat_lt, slice_index_or, slice_set}
use Rattle.std.specs.List.{range_with_len, slice_get}
use Rattle.scale.specs.Laws.{Order, above}
use Rattle.scale.specs.Refusals.{number_of}
use Rattle.scale.specs.declared.refusal.Refusal.TheVariants.{NoSuchPlace, PlaceTaken, NoSuchAtom, BottomGrade, PlaceEmpty, StaleCursor, ShortGradeBuffer}
use Rattle.semantics.specs.Rules.{Rule, reduct, necessity, conflict, stable_sets}
use Rattle.rulebase.specs.declared.call.Call.{Call}
use Rattle.rulebase.specs.declared.call.Call.TheVariants.{Enter, Strike, Cut, Mend, Rewind, Fetch, Conflict}

-- the list of stable sets is stale, or stands after so many of them
pub data Standing : Type 0 where
  stale : Standing
  after : ℕ → Standing

pub record State (G : Type 0) : Type 0 where
  pub places : List (Option (Rule G))
  pub standing : Standing

-- what the reference answers
pub data Reply (G : Type 0) : Type 0 where
  refused : ℕ → Reply G
  done : Reply G
  emptied : ℕ → Reply G
  mended : G → ℕ → Reply G
  model : ℕ → List G → Reply G
  no_more : Reply G
  grade : G → Reply G

-- how many stable sets the list has passed, and after one more fetch
abbrev pub passed : Standing → ℕ
passed stale = 0
passed (after n) = n

abbrev pub moved : Option ℕ → ℕ → ℕ
moved None n = n
moved (Some A) n = suc n

module _ {G : Type 0} where
  -- the rules held
  abbrev pub held : List (Option (Rule G)) → List (Rule G)
  held [] = []
  held (None ∷ ps) = held ps
  held (Some r ∷ ps) = r ∷ held ps

  -- what a place holds
  abbrev pub at : List (Option (Rule G)) → ℕ → Option (Rule G)
  at ps k = slice_index_or ps k None

  abbrev pub is_empty : Option (Rule G) → Bool
  is_empty None = true
  is_empty (Some r) = false

module _ {G : Type 0} (o : Order G) (w : ℕ) where
  -- a place after a cut at g: empty where its rule's grade is at most g
  abbrev pub cut_place : G → Option (Rule G) → Option (Rule G)
  cut_place g None = None
  cut_place g (Some r) = cond (o.at_most r.grade g) None (Some r)

  -- how many rules a cut at g takes from a place
  abbrev pub cut_of : G → Option (Rule G) → ℕ
  cut_of g None = 0
  cut_of g (Some r) = cond (o.at_most r.grade g) 1 0

  -- how many places a cut at g empties
  abbrev pub cut_count : G → List (Option (Rule G)) → ℕ
  cut_count g [] = 0
  cut_count g (p ∷ ps) = cut_of g p + cut_count g ps

  -- what a cut at g does: the state after it
  abbrev pub cut_state : G → State G → State G
  cut_state g s = record { places = map (cut_place g) s.places; standing = stale }

  -- the first question that gets a no, as its number; 0 where every question gets a yes
  abbrev pub refusal : State G → Call G → ℕ
  refusal s (Enter place head pos neg g) =
      cond (nat_lt place (length s.places))
      (cond (is_empty (at s.places place))
      (cond (nat_lt head w) (cond (above o g) 0 (number_of BottomGrade)) (number_of NoSuchAtom)) (number_of PlaceTaken)) (number_of NoSuchPlace)
  refusal s (Strike place) =
      cond (nat_lt place (length s.places)) (cond (is_empty (at s.places place)) (number_of PlaceEmpty) 0) (number_of NoSuchPlace)
  refusal s (Cut g) = 0
  refusal s Mend = 0
  refusal s Rewind = 0
  refusal s (Fetch n) = elim s.standing [ stale ↦ number_of StaleCursor | after m ↦ cond (nat_lt n w) (number_of ShortGradeBuffer) 0 ]
  refusal s Conflict = 0

  -- the next stable set, where there is one left
  abbrev pub upcoming : State G → Option ℕ
  upcoming s = slice_get (stable_sets o w (held s.places)) (passed s.standing)

  -- a stable set with the necessity of each atom in the reduct by it
  abbrev pub fetched : List (Rule G) → Option ℕ → Reply G
  fetched P None = no_more
  fetched P (Some A) = model A (map (necessity o w (reduct A P)) (range_with_len 0 w))

  -- the answer to a call that no question stops
  abbrev pub answer : State G → Call G → Reply G
  answer s (Enter place head pos neg g) = done
  answer s (Strike place) = done
  answer s (Cut g) = emptied (cut_count g s.places)
  answer s Mend = let g = conflict o w (held s.places) in mended g (cut_count g s.places)
  answer s Rewind = done
  answer s (Fetch n) = fetched (held s.places) (upcoming s)
  answer s Conflict = grade (conflict o w (held s.places))

  -- the state after a call that no question stops
  abbrev pub acted : State G → Call G → State G
  acted s (Enter place head pos neg g) =
      record { places = slice_set s.places place (Some (record { head = head; pos = pos; neg = neg; grade = g })); standing = stale }
  acted s (Strike place) = record { places = slice_set s.places place None; standing = stale }
  acted s (Cut g) = cut_state g s
  acted s Mend = cut_state (conflict o w (held s.places)) s
  acted s Rewind = record { places = s.places; standing = after 0 }
  acted s (Fetch n) = record { places = s.places; standing = after (moved (upcoming s) (passed s.standing)) }
  acted s Conflict = s

  -- a refused call alters nothing
  unfoldable pub reply : State G → Call G → Reply G
  reply s c = cond (refusal s c == 0) (answer s c) (refused (refusal s c))

  unfoldable pub next : State G → Call G → State G
  next s c = cond (refusal s c == 0) (acted s c) s

  -- the answers to a list of calls, and the state after them
  abbrev pub replies : State G → List (Call G) → List (Reply G)
  replies s [] = []
  replies s (c ∷ cs) = reply s c ∷ replies (next s c) cs

  abbrev pub final : State G → List (Call G) → State G
  final s [] = s
  final s (c ∷ cs) = final (next s c) cs

  -- after opening: as many empty places as the tables have, and a stale list
  abbrev pub opened : ℕ → State G
  opened n = record { places = replicate n None; standing = stale }
