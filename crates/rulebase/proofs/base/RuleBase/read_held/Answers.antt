use Rattle.std.proofs.Common.{rules, ◌∙◌, length-append}
use Rattle.rulebase.specs.Calls.{rules_in, rows_in}
use Rattle.rulebase.specs.Tables.{state_of}
use Rattle.rulebase.proofs.Copied.{copied_none, copied_more, copied_past, copied_all, loop_turn, loop_end}
use Rattle.rulebase.proofs.base.RuleBase.read_held.Goals as goal

pub loop-place-init : goal.loop-place-init
loop-place-init g c = simp c.clear.ensures (copied_none g.S.Scale.scale (rules_in c.args.self.now) (rows_in c.args.self.now))

pub loop-place-preserved-in-Some-entry_of : goal.loop-place-preserved-in-Some-entry_of
loop-place-preserved-in-Some-entry_of g c =
    let rs = rules_in c.args.self.now in
    let xs = rows_in c.args.self.now in
    let t = loop_turn rs xs c.into_iter-place-iterator.result (search rules) (search rules) (search rules) c.loop-place.yielded c.loop-place.place-iterator c.next.new.self c.loop-place.yielded_by c.next.result c.next.ensures.steps _ c.in-Some.is in
    let h = copied_more g.S.Scale.scale rs xs _ c.loop-place.held.items c.loop-place.invariant t.1 c.in-Some.record.now c.in-Some.row.now t.2 t.3 _ c.in-Some-entry_of.entry.grade c.push.new.self.items c.push.ensures.items (c.new.ensures.place ∙ t.0) (cc (c.new.ensures.head, c.new.ensures.pos, c.new.ensures.neg, c.in-Some-entry_of.ensures)) in
    simp length-append h

pub loop-place-preserved : goal.loop-place-preserved
loop-place-preserved g c =
    let rs = rules_in c.args.self.now in
    let xs = rows_in c.args.self.now in
    let t = loop_turn rs xs c.into_iter-place-iterator.result (search rules) (search rules) (search rules) c.loop-place.yielded c.loop-place.place-iterator c.next.new.self c.loop-place.yielded_by c.next.result c.next.ensures.steps _ c.in-Some.is in
    let h = copied_past g.S.Scale.scale rs xs _ c.loop-place.held.items c.loop-place.invariant t.1 c.in-Some.record.now c.in-Some.row.now t.2 t.3 c.in_default.ensures in
    simp length-append h

pub returns : goal.returns
unfolding state_of
returns g c =
    let rs = rules_in c.args.self.now in
    let xs = rows_in c.args.self.now in
    let n = loop_end rs xs c.into_iter-place-iterator.result (search rules) (search rules) (search rules) c.loop-place.yielded c.loop-place.place-iterator c.next.new.self c.loop-place.yielded_by c.next.result c.next.ensures.steps c.in-None.is in
    copied_all g.S.Scale.scale rs xs _ c.loop-place.held.items n c.loop-place.invariant
