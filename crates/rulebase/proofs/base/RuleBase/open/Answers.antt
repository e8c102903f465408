use Rattle.std.proofs.Common.{◌≡◌, replicate, length, ◌∙◌, ap₂, rules}
use Rattle.rulebase.specs.Tables.{state_of}
use Rattle.rulebase.specs.declared.cursor.Cursor.TheVariants.{Stale}
use Rattle.rulebase.proofs.Setting.{filled_with, state-opened}
use Rattle.rulebase.proofs.base.RuleBase.open.Goals as goal

pub returns : goal.returns
returns g c =
    let s = g.S.Scale.scale in
    let row = s.row_of s.order.bottom in
    let filled : c.fill_with.new.self ≡ replicate (length c.fill_with.new.self) row = filled_with _ row (λ p. p.0.now ≡ row) (λ p x q k h. (search (rules, k), search (rules, k))) _ _ _ (search rules) c.fill_with.ensures.ran.1 in
    record {
      state = ap₂ (λ rules rows. state_of s rules rows Stale) (search rules) (search (rules, filled)) ∙ state-opened s c.args.rules.now c.args.rows.now row;
      rules = search rules;
      rows = search (rules, filled);
      rules_name = search rules;
      rows_name = search rules;
    }
