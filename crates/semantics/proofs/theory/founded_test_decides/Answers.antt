use Rattle.semantics.proofs.Founded.{founded_in, founded-out}
use Rattle.semantics.proofs.theory.founded_test_decides.Goals as goal

pub returns : goal.returns
returns g c = λ w P fits A. (founded-out w P A, founded_in w P A fits)
