use Rattle.std.proofs.Common.{arith, ◌*◌, ◌++◌, take, drop, ap, ◌∙◌}
use Rattle.semantics.specs.Sets.{width}
use Rattle.rulebase.specs.Calls.{rules_in, rows_in, state_in}
use Rattle.rulebase.specs.Lists.{first_calls, kept_all}
use Rattle.rulebase.specs.Reference.{replies, final}
use Rattle.rulebase.proofs.AsMachine.{lowest-stable, none_left, held-lawful, grades-necessities, grades_readings, conflict-objection, conflict-bottom}
use Rattle.rulebase.proofs.RunLoop.{first-length, opened_tables, opened_then}
use Rattle.rulebase.proofs.running.run_all.Goals as goal

pub returns : goal.returns
returns g c =
    let s = g.S.Scale.scale in
    let a = c.open-base.result in
    let b = c.run-performed.new.self in
    let o = c.open-base.ensures in
    let e = c.run-performed.ensures in
    let p = e.performs in
    let n = c.run-performed.result in
    let cs = first_calls n c.args.calls.now in
    let rows = c.args.readings.now in
    let t = opened_then s c.args.rules.now c.args.rows.now (rules_in a) (rows_in a) (rules_in b) (rows_in b) (opened_tables s c.args.rules.now c.args.rows.now (rules_in a) (rows_in a) o.rules o.rows) p.tables.stays in
    record {
      agrees = record {
        count = e.count;
        agree = p.replied ∙ ap (λ st. replies s.order width st cs) o.state;
        state = p.state ∙ ap (λ st. final s.order width st cs) o.state;
        exact = t.exact;
        answers_rest = e.rest;
        rows_kept = p.kept ∙ ap (λ k. kept_all s (state_in s a) cs (take n c.run-performed.new.answers) rows ++ drop (width * k) rows) (first-length n c.args.calls.now (omega (arith, e.count))) ∙ ap (λ st. kept_all s st cs (take n c.run-performed.new.answers) rows ++ drop (width * n) rows) o.state;
        tables_rest = t.rest;
      };
      fetched = lowest-stable _;
      no_more = none_left _;
      lawful = held-lawful _;
      necessities = grades-necessities _;
      graded = grades_readings _;
      conflicts = conflict-objection _;
      bottom = conflict-bottom _;
      rules_name = p.tables.rules_name ∙ o.rules_name;
      rows_name = p.tables.rows_name ∙ o.rows_name;
    }
