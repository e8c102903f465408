use Rattle.std.proofs.Common.{◌≡◌, ◌<◌, true, false, sym, refl, ap, ◌∙◌, arith, rules, MatchOption}
use Rattle.rulebase.specs.Calls.{rules_in, rows_in}
use Rattle.rulebase.specs.Tables.{count_of, state_of}
use Rattle.rulebase.proofs.Cuts.{test_at, cut-none, cut-same, cut_more, cut_lengths, cut_records_lem, cut_rows_lem, cut-stays, cut-reply, cut-next}
use Rattle.rulebase.proofs.base.RuleBase.cut.Goals as goal
use Rattle.rulebase.proofs.base.RuleBase.cut.Goals.{then-is_some_and, else-is_some_and}

pub loop-place-init : goal.loop-place-init
loop-place-init g c = record { places = cut-none g.S.Scale.scale c.args.grade (rules_in c.args.self.now) (rows_in c.args.self.now); rules_name = refl; rows_name = refl }

pub clear-requires : goal.clear-requires
clear-requires g c = let l = cut_lengths c.loop-place.invariant.places in omega arith

pub loop-place-preserved : goal.loop-place-preserved
unfolding state_of
loop-place-preserved g c =
    let s = g.S.Scale.scale in
    let a = c.args.self.now in
    let b = c.loop-place.self in
    let h = c.loop-place.invariant in
    let inside : c.loop-place.place < count_of (rules_in a) (rows_in a) = omega arith in
    let there : c.loop-place.place < count_of (rules_in b) (rows_in b) = let l = cut_lengths h.places in omega arith in
    let tested : MatchOption c.rule_at.result (c.is_some_and.result ≡ false) (λ e. c.is_some_and.result ≡ s.order.at_most e.grade c.args.grade) = search rules in
    let cuts = test_at s c.args.grade c.rule_at.result tested (rules_in b) (rows_in b) c.loop-place.place there c.rule_at.ensures in
    elim c.if-is_some_and.branch [
      | then-is_some_and w ↦
          let k = w.clear.ensures in
          record {
            places = cut-same (cut-same (cut_more h.places true inside (sym w.if-is_some_and.true ∙ cuts)) k.rules k.rows refl) (ap rules_in w.self-is) (ap rows_in w.self-is) w.emptied-is;
            rules_name = ap (λ b. b.rules.ghost_name) w.self-is ∙ k.rules_name ∙ h.rules_name;
            rows_name = ap (λ b. b.grades.rows.ghost_name) w.self-is ∙ k.rows_name ∙ h.rows_name;
          }
      | else-is_some_and w ↦
          record {
            places = cut-same (cut_more h.places false inside (sym w.if-is_some_and.false ∙ cuts)) (ap rules_in w.self-is) (ap rows_in w.self-is) (omega (arith, w.emptied-is));
            rules_name = ap (λ b. b.rules.ghost_name) w.self-is ∙ h.rules_name;
            rows_name = ap (λ b. b.grades.rows.ghost_name) w.self-is ∙ h.rows_name;
          }
    ]

pub returns : goal.returns
returns g c =
    let h = c.loop-place.invariant in
    let cursor = c.args.self.now.cursor in
    record {
      answer = cut-reply h.places (omega arith) cursor;
      state = cut-next h.places (omega arith) cursor;
      rules = cut_records_lem h.places (omega arith);
      rows = cut_rows_lem h.places (omega arith);
      tables = record { stays = cut-stays h.places (omega arith); rules_name = h.rules_name; rows_name = h.rows_name };
    }
