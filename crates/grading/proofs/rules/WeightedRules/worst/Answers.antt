use Rattle.std.proofs.Common.{◌∙◌, rules, tests}
use Rattle.std.proofs.lemmas.Bool.Decides.{same_from_decides}
use Rattle.std.proofs.lemmas.Iterator.{YieldsList-from_slice, YieldsList-from_map}
use Rattle.std.proofs.lemmas.Iterator.Consumers.{fold_from_yields_List, YieldsList-from_filter, YieldsList-at}
use Rattle.semantics.specs.Plain.{grade_of}
use Rattle.grading.proofs.Folding.{breaking, decides_broken, worse, worst_from_bottom}
use Rattle.grading.proofs.rules.WeightedRules.worst.Goals as goal

pub returns : goal.returns
returns g c =
    let s = g.S.Scale.scale in
    let w = c.args.self in
    let A = c.args.set in
    fold_from_yields_List _ (worse s A w.rows.now) c.bottom.result c.fold.result c.fold.ensures.ran
    (YieldsList-from_map _ (grade_of s w.rows.now)
    (YieldsList-at c.map.ensures.source (YieldsList-from_filter _ (breaking A) (YieldsList-from_slice w.rules.now cc) c.filter.ensures.closure (λ x r q k. (search (rules, tests), same_from_decides r (breaking A x.now) (search (rules, tests)) (decides_broken A x.now)))))
    c.map.ensures.closure (λ x r q k. (search (rules, tests), search (rules, tests))))
    (λ a x b q k. (search (rules, tests), search (rules, tests)))
    ∙ worst_from_bottom s A w.rows.now w.rules.now c.bottom.result c.bottom.ensures
