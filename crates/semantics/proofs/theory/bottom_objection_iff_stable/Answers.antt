use Rattle.semantics.proofs.Objections.{unopposed_is_model, model_is_unopposed, unopposed_is_stable, stable_is_unopposed}
use Rattle.semantics.proofs.theory.bottom_objection_iff_stable.Goals as goal

pub returns : goal.returns
returns g c = record {
  stable = λ o w P fits graded A l. (unopposed_is_stable o w P fits graded A l, stable_is_unopposed o w P fits A);
  support = λ o w P fits graded A l. (unopposed_is_model o w P fits graded A l, model_is_unopposed o w P fits A);
}
