use Rattle.std.proofs.Common.{◌≡◌, Decides, sym, ap, ◌∙◌, subst, rules, MatchOption}
use borrow.Author.Tests.{tests}
use Rattle.std.specs.Iterator.Adapters.{filter_callee}
use Rattle.std.proofs.lemmas.Bool.Decides.{same_from_decides}
use Rattle.std.proofs.lemmas.Iterator.{YieldsList-from_slice, YieldsList-from_map}
use Rattle.std.proofs.lemmas.Iterator.Adapters.{option_map_id}
use Rattle.std.proofs.lemmas.Iterator.Consumers.{YieldsList-from_filter, max_from_yields_List}
use Rattle.semantics.specs.Plain.{Broken}
use Rattle.semantics.specs.declared.rule.PlainRule.{PlainRule}
use Rattle.search.specs.Objection.{Unbroken, Worst}
use Rattle.search.proofs.Objected.{is_broken, decides_broken, worst_rank, worst_reduced}
use Rattle.search.proofs.objection.broken_rank.Goals as goal

-- the chain gives the greatest of the ranks of the rules that are broken
greatest : (c : goal.After-max) → c.max.result ≡ worst_rank c.args.set c.args.rules.now
greatest c =
    sym (option_map_id _)
    ∙ max_from_yields_List _ c.max.result c.max.ensures.ran
    (YieldsList-from_map _ (λ (q : PlainRule). q.rank)
    (YieldsList-from_filter _ (is_broken c.args.set) (YieldsList-from_slice c.args.rules.now cc) (ap filter_callee c.map.ensures.source ∙ c.filter.ensures.closure)
    (λ x b q k. let says : Decides b (Broken c.args.set x.now) = search (rules, tests) in (search (rules, tests), same_from_decides b _ says (decides_broken c.args.set x.now))))
    c.map.ensures.closure (λ x r q k. search (rules, tests)))

pub returns : goal.returns
returns c =
    subst (λ o. MatchOption o (Unbroken c.args.rules.now c.args.set) (Worst c.args.rules.now c.args.set)) (sym (greatest c)) (worst_reduced c.args.set c.args.rules.now)
