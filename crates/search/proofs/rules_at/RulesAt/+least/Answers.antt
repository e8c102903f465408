use Rattle.std.proofs.Common.{ℕ, ◌+◌, ◌<◌, arith}
use Rattle.semantics.specs.Sets.{Highest, width, others}
use Rattle.search.proofs.Forced.{room, room-least}
use Rattle.search.proofs.Split.{decided, DecidedFrom, decided-all, decided_above, room_present, room_absent, leaf, found_absent, then_present}
use Rattle.search.proofs.rules_at.RulesAt.+least.Goals as goal
use Rattle.search.proofs.rules_at.RulesAt.+least.Goals.{In-Some}

pub returns-in_default : goal.returns-in_default
returns-in_default t c =
    let n = c.in_ok-b.ensures in
    leaf (λ A a. a.below) _ (omega arith) (omega arith) n.narrows n.apart n.settled (decided-all _ (omega arith) (omega arith) (rw c.open.ensures at c.in_default.ensures))

-- the atom is the greatest that is open
top : (t : ℕ) (c : In-Some t) → Highest c.in-Some.atom.number (others width (decided c.in_ok-b.b))
top t c = rw c.open.ensures at c.in-Some.ensures

above : (t : ℕ) (c : In-Some t) → DecidedFrom (c.in-Some.atom.number + 1) c.in_ok-b.b
above t c = decided_above _ (omega arith) (omega arith) _ (top t c)

pub least-requires : goal.least-requires
least-requires t c =
    let d = (goal.at.least-requires t c).In-Some in
    let falls : room c.with_absent-without.result < room c.in_ok-b.b = rw c.with_absent-without.ensures (room_absent _ (omega arith) (omega arith) _ (top t d)) in
    (omega (arith, falls, room-least c.in_ok-b.ensures.narrows), tt)

pub least-requires-in-None : goal.least-requires-in-None
least-requires-in-None t c =
    let d = (goal.at.least-requires-in-None t c).In-Some in
    let falls : room c.with_present-including.result < room c.in_ok-b.b = rw c.with_present-including.ensures (room_present _ (omega arith) (omega arith) _ (top t d)) in
    (omega (arith, falls, room-least c.in_ok-b.ensures.narrows), tt)

pub returns-in-Some-least : goal.returns-in-Some-least
returns-in-Some-least t c =
    found_absent (λ A a. a.below) _ c.in_ok-b.ensures.narrows (above t (goal.at.returns-in-Some-least t c).In-Some)
    (rw c.with_absent-without.ensures at c.in-Some-least.ensures)

pub returns-in-None : goal.returns-in-None
returns-in-None t c =
    then_present (λ A a. a.below) _ c.in_ok-b.ensures.narrows (above t (goal.at.returns-in-None t c).In-Some)
    (rw c.with_absent-without.ensures at c.in-None.ensures) _
    (rw c.with_present-including.ensures at c.least-in-None.ensures)
