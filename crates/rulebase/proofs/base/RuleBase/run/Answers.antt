use Rattle.std.proofs.Common.{◌≡◌, ◌+◌, ◌-◌, ◌*◌, ◌<◌, ◌≤◌, length, rules, arith, length-take}
use Rattle.std.proofs.lemmas.List.{take-append-le}
use Rattle.semantics.specs.Sets.{width}
use Rattle.rulebase.proofs.RunLoop.{run_more}
use Rattle.rulebase.proofs.base.RuleBase.run.Goals as goal

pub offset_bounds-answer-items-i : goal.offset_bounds-answer-items-i
offset_bounds-answer-items-i g c = let l : c.loop-i.i < length c.args.answers.now = omega (arith, length-take c.min-performed.result c.args.answers.now) in search rules

pub offset_bounds-readings-from : goal.offset_bounds-readings-from
offset_bounds-readings-from g c =
    let few = length-take c.min-performed.result c.args.answers.now in
    let l : 64 * c.loop-i.i < length c.args.readings.now = omega arith in
    search rules

pub returns-clause-performs : goal.returns-clause-performs
returns-clause-performs g c =
    let few = length-take c.min-performed.result c.args.answers.now in
    let e : c.loop-i.i ≡ c.min-performed.result = omega arith in
    let l : c.loop-i.i ≤ length c.loop-i.answer-items = omega arith in
    rw (← e, take-append-le) c.loop-i.invariant.performs

pub loop-i-preserved : goal.loop-i-preserved
loop-i-preserved g c =
    let i = c.loop-i.i in
    let calls = c.args.calls.now in
    let rows = c.args.readings.now in
    let answers = c.args.answers.now in
    let few = length-take c.min-performed.result answers in
    let l : i < length calls = omega arith in
    let m : i < length c.loop-i.answer-items = omega arith in
    let room : width * i + width ≤ length rows = omega arith in
    let wide : width * i + width - width * i ≡ width = omega arith in
    let e = c.perform.ensures in
    run_more g.S.Scale.scale c.args.self.now calls rows i _ c.loop-i.self c.perform.new.self c.loop-i.answer-items c.loop-i.readings c.perform.new.rows c.index-calls-i.result c.perform.result l m room wide c.index-calls-i.is c.loop-i.invariant e.performs e.rows
