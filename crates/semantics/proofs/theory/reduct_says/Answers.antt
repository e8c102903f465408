use Rattle.std.proofs.Common.{sym, subst}
use Rattle.semantics.specs.Rules.{Among, reduct}
use Rattle.semantics.proofs.Reducts.{reduct_in, reduct-out}
use Rattle.semantics.proofs.theory.reduct_says.Goals as goal

pub returns : goal.returns
returns g c = λ A P r. (reduct-out A P r, λ a. subst (λ s. Among s (reduct A P)) (sym a.3) (reduct_in A P a.0 a.1 a.2))
