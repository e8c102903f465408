use Rattle.std.proofs.Common.{◌≡◌}
use Rattle.semantics.specs.Plain.{weighted}
use Rattle.rulebase.specs.Calls.{state_in}
use Rattle.rulebase.specs.Reference.{held}
use Rattle.rulebase.specs.Tables.{state_of}
use Rattle.rulebase.proofs.ReadOut.{read_none, read_some, laid-rows}
use Rattle.rulebase.proofs.base.RuleBase.read_next.Goals as goal

pub returns-in_err-set : goal.returns-in_err-set
unfolding state_of
returns-in_err-set g c =
    let s = g.S.Scale.scale in
    let b = c.args.self.now in
    let rs = c.as_slice-rules.result.now in
    let read : weighted s rs b.grades.rows.now ≡ held (state_in s b).places = cc (c.as_slice-rules.ensures.value, c.read_held.ensures) in
    simp c.from_residual.ensures (read_none s b.rules.now b.grades.rows.now rs read b.cursor c.args.buffer.now c.in_err-set.ensures)

pub returns : goal.returns
unfolding state_of
returns g c =
    let s = g.S.Scale.scale in
    let b = c.args.self.now in
    let rs = c.as_slice-rules.result.now in
    let read : weighted s rs b.grades.rows.now ≡ held (state_in s b).places = cc (c.as_slice-rules.ensures.value, c.read_held.ensures) in
    let laid = laid-rows s (weighted s rs b.grades.rows.now) c.in_ok-set.set c.args.buffer.now c.consequences.new.into c.consequences.result c.consequences.ensures c.requires in
    read_some s b.rules.now b.grades.rows.now rs read b.cursor c.args.buffer.now c.consequences.new.into c.in_ok-set.set c.in_ok-set.ensures c.requires laid
