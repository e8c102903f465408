use Rattle.rulebase.proofs.Conflicts.{cut_mends}
use Rattle.rulebase.proofs.base.RuleBase.mend.Goals as goal

pub returns : goal.returns
returns g c = cut_mends g.S.Scale.scale c.args.self.now _ c.conflict-grade.result c.cut-emptied.result c.conflict-grade.ensures.answer c.cut-emptied.ensures
