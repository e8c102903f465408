-- Where every rule is strong, the admissible sets are the stable ones.
use Rattle.std.proofs.Common.{◌≡◌, ℕ, Bool, true, List, sym, refl, ◌∙◌, subst, arith}
use Rattle.scale.specs.Laws.{above}
use Rattle.semantics.specs.Sets.{width}
use Rattle.semantics.specs.Rules.{Rule, reduct}
use Rattle.semantics.specs.Plain.{by_rank, held, truth}
use Rattle.semantics.specs.Statements.{Fits, Graded}
use Rattle.semantics.specs.declared.rule.PlainRule.{PlainRule}
use Rattle.search.specs.Admissible.{Admissible, Stable}
use Rattle.semantics.proofs.Alike.{Alike, alike_sym, alike_weigh, alike_reduct, alike_founded, alike_unbroken}
use Rattle.semantics.proofs.Plain.{graded-out, graded-fits}
use Rattle.semantics.proofs.Stable.{stable_from, stable-out}

module _ (rs : List PlainRule) where
  held_fits : Fits width (held rs)
  held_fits = graded-fits (λ (x : PlainRule). true) rs

  held-graded : Graded truth (held rs)
  unfolding above
  held-graded r i =
      let q = graded-out (λ (x : PlainRule). true) rs r i in
      subst (λ (x : Rule Bool). above truth x.grade ≡ true) (sym q.2) refl

  module _ (A : ℕ) where
    -- the reducts of the rules with their ranks, and of the rules held true, differ in grades alone
    reducts_alike : Alike (reduct A (by_rank rs)) (reduct A (held rs))
    reducts_alike = alike_reduct A (by_rank rs) (held rs) (alike_weigh (λ (x : PlainRule). x.rank) (λ (x : PlainRule). true) rs)

    pub stable-admissible : Stable rs A → Admissible width 0 (by_rank rs) A
    stable-admissible t =
        let s = stable-out truth width (held rs) held_fits held-graded A t in
        let kept = alike_unbroken A (reduct A (held rs)) (reduct A (by_rank rs)) (alike_sym (reduct A (by_rank rs)) (reduct A (held rs)) reducts_alike) s.2 in
        record {
          below = s.0;
          founds = alike_founded width (reduct A (by_rank rs)) (reduct A (held rs)) reducts_alike A ∙ s.1;
          keeps = λ r i l. kept r i;
        }

    pub admissible-stable : Admissible width 0 (by_rank rs) A → Stable rs A
    admissible-stable a =
        stable_from truth width (held rs) held_fits held-graded A a.below
        (sym (alike_founded width (reduct A (by_rank rs)) (reduct A (held rs)) reducts_alike A) ∙ a.founds)
        (alike_unbroken A (reduct A (by_rank rs)) (reduct A (held rs)) reducts_alike (λ r i. a.keeps r i (omega arith)))
