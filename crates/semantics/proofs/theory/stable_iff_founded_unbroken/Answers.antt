use Rattle.semantics.specs.Rules.{reduct}
use Rattle.semantics.proofs.Reducts.{reduct-fits}
use Rattle.semantics.proofs.Founded.{founded_in, founded-out}
use Rattle.semantics.proofs.Stable.{stable_from, stable-out}
use Rattle.semantics.proofs.theory.stable_iff_founded_unbroken.Goals as goal

pub returns : goal.returns
returns g c = λ o w P fits graded A. (
  λ t. let s = stable-out o w P fits graded A t in (s.0, founded-out w (reduct A P) A s.1, s.2),
  λ a. stable_from o w P fits graded A a.0 (founded_in w (reduct A P) A (reduct-fits w A P fits) a.1) a.2,
)
