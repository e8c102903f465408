use Rattle.std.proofs.Common.{◌<◌, sym, refl, arith}
use Rattle.semantics.specs.Sets.{width}
use Rattle.rulebase.specs.Calls.{rules_in, rows_in}
use Rattle.rulebase.specs.Reference.{reply, next}
use Rattle.rulebase.specs.Tables.{state_of}
use Rattle.rulebase.proofs.Setting.{stays_entered, entry_steps}
use Rattle.rulebase.proofs.base.RuleBase.enter.Goals as goal

pub returns : goal.returns
unfolding state_of reply next
returns g c =
    let b = c.args.self.now in
    let low : c.number.result < width = omega (arith, c.number.ensures, c.in_ok-atom.atom.ok) in
    let stays = stays_entered g.S.Scale.scale (rules_in b) (rows_in b) c.args.place c.number.result c.args.pos c.args.neg c.args.grade _ _ refl c.put.ensures.rows (omega (arith, c.in_ok-entry_at.ensures)) low (sym c.if-not-is_above_bottom.ensures) in
    grind (arith, entry_steps)
