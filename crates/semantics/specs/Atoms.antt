-- Which numbers are atoms.
use Rattle.std.specs.Prelude.{◌≡◌, ℕ, ◌<◌, ◌≤◌, Ok, Err, Result}
use Rattle.scale.specs.declared.refusal.Refusal.{Refusal}
use Rattle.scale.specs.declared.refusal.Refusal.TheVariants.{NoSuchAtom}
use Rattle.semantics.specs.Sets.{width}
use Rattle.semantics.specs.declared.atom.Atom.{Atom}

-- what a number gives: below the width the atom of that number, else the refusal
abbrev pub AtomFrom : ℕ → Result Atom Refusal → Type 0
AtomFrom number (Ok atom) = (number < width) × (atom.number ≡ number)
AtomFrom number (Err e) = (width ≤ number) × (e ≡ NoSuchAtom)
