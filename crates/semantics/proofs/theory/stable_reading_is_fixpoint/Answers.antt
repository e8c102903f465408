use Rattle.semantics.proofs.Fixpoints.{reading-stable, stable-reading, stable_supports, supports_stable}
use Rattle.semantics.proofs.theory.stable_reading_is_fixpoint.Goals as goal

pub returns : goal.returns
returns g c = record {
  reading = λ o w P d. (reading-stable o w P d, stable-reading o w P d);
  support = λ o w P A. (stable_supports o w P A, supports_stable o w P A);
}
