-- What a place holds, as the code answers it.
use Rattle.std.specs.Prelude.{Some, None, Option}
use Rattle.semantics.specs.Rules.{Rule}
use Rattle.rulebase.specs.declared.holding.Entry.{Entry}

-- the rule that an answer stands for
abbrev pub entered : {G : Type 0} → Option (Entry G) → Option (Rule G)
entered None = None
entered (Some e) = Some (record { head = e.head.number; pos = e.pos; neg = e.neg; grade = e.grade })
