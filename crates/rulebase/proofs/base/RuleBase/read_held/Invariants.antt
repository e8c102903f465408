use Rattle.std.proofs.Common.{length}
use Rattle.rulebase.specs.Calls.{rules_in, rows_in}
use Rattle.rulebase.proofs.Copied.{Copied}
use Rattle.rulebase.proofs.base.RuleBase.read_held.Given as goal

abbrev pub invariant-loop-place : goal.invariant-loop-place
invariant-loop-place g l = Copied g.S.Scale.scale (rules_in l.self) (rows_in l.self) (length l.yielded) l.held.items
