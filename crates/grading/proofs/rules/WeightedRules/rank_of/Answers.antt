use Rattle.std.proofs.Common.{not, sym, ◌∙◌, ap, rules, tests}
use Rattle.std.proofs.lemmas.Iterator.{YieldsList-from_slice}
use Rattle.std.proofs.lemmas.Iterator.Consumers.{count_from_yields_List, YieldsList-from_filter}
use Rattle.semantics.specs.Plain.{grade_of}
use Rattle.grading.specs.Ranks.{grades, rank_among}
use Rattle.grading.proofs.Ranking.{rank_counted}
use Rattle.grading.proofs.rules.WeightedRules.rank_of.Goals as goal

pub returns : goal.returns
returns g c =
    let s = g.S.Scale.scale in
    let w = c.args.self in
    count_from_yields_List c.filter.result _ c.count.ensures.ran
    (YieldsList-from_filter _ (λ r. not (s.order.at_most c.grade_of-grade.result (grade_of s w.rows.now r))) (YieldsList-from_slice w.rules.now cc) c.filter.ensures.closure (λ x r q k. (search (rules, tests), search (rules, tests))))
    ∙ sym (rank_counted s w.rows.now w.rules.now c.grade_of-grade.result)
    ∙ ap (rank_among s.order (grades s w.rows.now w.rules.now)) c.grade_of-grade.ensures
