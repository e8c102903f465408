use Rattle.std.proofs.Common.{arith}
use Rattle.std.proofs.lemmas.Grind.{common_steps}
use Rattle.std.proofs.lemmas.List.{take_min, drop_min}
use Rattle.semantics.specs.Plain.{over}
use Rattle.grading.proofs.rows.lay_over.Goals as goal

pub returns : goal.returns
unfolding over
returns g c = grind (arith, common_steps, take_min, drop_min)
