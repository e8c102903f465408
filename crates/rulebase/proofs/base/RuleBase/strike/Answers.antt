use Rattle.std.proofs.Common.{arith}
use Rattle.rulebase.specs.Calls.{rules_in, rows_in}
use Rattle.rulebase.specs.Reference.{reply, next}
use Rattle.rulebase.specs.Tables.{state_of}
use Rattle.rulebase.proofs.Staying.{stays_emptied, place_steps}
use Rattle.rulebase.proofs.base.RuleBase.strike.Goals as goal

pub returns : goal.returns
unfolding state_of reply next
returns g c =
    let b = c.args.self.now in
    let stays = stays_emptied g.S.Scale.scale (rules_in b) (rows_in b) c.args.place _ _ c.clear.ensures.rules c.clear.ensures.rows (omega (arith, c.in_ok-entry_at.ensures)) in
    grind (arith, place_steps)
