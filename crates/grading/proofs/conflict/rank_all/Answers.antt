use Rattle.std.proofs.Common.{◌<◌, List, length, get_or, sym, refl, ap, ◌∙◌, arith}
use Rattle.std.proofs.lemmas.List.{length-map}
use Rattle.semantics.specs.Plain.{grade_of}
use Rattle.semantics.specs.declared.rule.PlainRule.{PlainRule}
use Rattle.grading.specs.Ranks.{grades, rank_among, ranks_of}
use Rattle.grading.proofs.Ranking.{rank-le, place_set, ranks-set, same-grades, same_place, ranks_at, ranks_from}
use Rattle.grading.proofs.conflict.rank_all.Goals as goal

pub invariant_of-rules : goal.invariant_of-rules
invariant_of-rules g c d =
    let s = g.S.Scale.scale in
    let few = rank-le s.order (grades s c.args.rows.now c.loop-i.rules) (grade_of s c.args.rows.now c.index-rules-i.result) in
    (omega arith, (((get_or c.loop-i.rules c.loop-i.i d).low.0, omega (arith, few, length-map c.loop-i.rules (grade_of s c.args.rows.now), c.rank_of-rank.ensures, c.well_formed.0.1)), tt))

pub loop-i-preserved : goal.loop-i-preserved
loop-i-preserved g c =
    let s = g.S.Scale.scale in
    let rows = c.args.rows.now in
    let rules = c.loop-i.rules in
    let i = c.loop-i.i in
    let r = c.index-rules-i.result in
    let inside : i < length rules = omega arith in
    let kept = c.loop-i.invariant.0 in
    let rank = c.rank_of-rank.ensures ∙ ap (λ (gs : List _). rank_among s.order gs (grade_of s rows r)) (same-grades s rows rules c.args.rules.now kept)
    ∙ sym (ranks_at s rows c.args.rules.now i r (omega arith) (same_place rules c.args.rules.now kept i r inside c.index-rules-i.is)) in (
      place_set rules i _ inside c.index-rules-i-in-loop-i.result refl ∙ kept,
      ranks-set rules i _ inside (λ k. get_or (ranks_of s rows c.args.rules.now) k 0) c.loop-i.invariant.1 rank,
    )

pub returns-clause-ranked : goal.returns-clause-ranked
returns-clause-ranked g c =
    ranks_from g.S.Scale.scale c.args.rows.now c.args.rules.now _ (length-map c.loop-i.rules (λ (r : PlainRule). r.rank) ∙ omega arith) (λ k h. c.loop-i.invariant.1 k (omega arith))
