use Rattle.std.proofs.Common.{◌≡◌}
use Rattle.rulebase.specs.Calls.{rules_in, rows_in}
use Rattle.rulebase.proofs.Cuts.{CutTo}
use Rattle.rulebase.proofs.base.RuleBase.cut.Given as goal

abbrev pub invariant-loop-place : goal.invariant-loop-place
invariant-loop-place g l =
    let a = l.initial.self in
    let b = l.self in
    record {
      places : CutTo g.S.Scale.scale l.grade (rules_in a) (rows_in a) l.place (rules_in b) (rows_in b) l.emptied;
      rules_name : b.rules.ghost_name ≡ a.rules.ghost_name;
      rows_name : b.grades.rows.ghost_name ≡ a.grades.rows.ghost_name;
    }
