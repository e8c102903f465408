use Rattle.semantics.proofs.Stages.{fixed-point, least-fixed}
use Rattle.semantics.proofs.theory.consequences_are_least_fixpoint.Goals as goal

pub returns : goal.returns
returns g c = λ o w P fits. record { fixed = fixed-point o w P fits; least = least-fixed o w P }
