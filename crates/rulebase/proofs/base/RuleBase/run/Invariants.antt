use Rattle.rulebase.proofs.RunLoop.{RunTo}
use Rattle.rulebase.proofs.base.RuleBase.run.Given as goal

abbrev pub invariant-loop-i : goal.invariant-loop-i
invariant-loop-i g l = RunTo g.S.Scale.scale l.initial.self l.calls l.initial.readings l.i l.self l.answer-items l.readings
