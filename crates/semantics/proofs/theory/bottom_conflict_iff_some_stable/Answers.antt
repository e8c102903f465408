use Rattle.semantics.proofs.Objections.{free_of_conflict, stable_frees}
use Rattle.semantics.proofs.theory.bottom_conflict_iff_some_stable.Goals as goal

pub returns : goal.returns
returns g c = λ o w P fits graded. (free_of_conflict o w P fits graded, λ a. stable_frees o w P fits a.0 a.2)
