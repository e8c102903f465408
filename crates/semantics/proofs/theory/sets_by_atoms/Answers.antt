use Rattle.std.proofs.Common.{◌≡◌, ◌<◌, sym, ◌∙◌, ⊎_elim}
use Rattle.semantics.specs.Sets.{others, collect}
use Rattle.semantics.proofs.Sets.{decides_within, decides_disjoint, same_atoms, has_weight, in_adding, adding_in, adding-keeps, has-below, others_below, in_others, out-others, out_from, not_both, collect-below, collect-has}
use Rattle.semantics.proofs.theory.sets_by_atoms.Goals as goal

pub returns : goal.returns
returns c = record {
  within = decides_within;
  disjoint = decides_disjoint;
  same = same_atoms;
  weight = has_weight;
  adding = λ A k x. (in_adding A k x, λ i. ⊎_elim (adding-keeps A k x) (λ (e : x ≡ k). rw e (adding_in A k)) i);
  others = λ w A x l. (
    λ i. (has-below w (others w A) x (others_below w A) i, out_from x A (λ j. not_both x (others w A) i (out-others w A x l j))),
    λ p. in_others w A x p.0 l p.1,
  );
  collect = λ n p x. (
    λ i. let l : x < n = has-below n (collect n p) x (collect-below n p) i in (l, sym (collect-has n p x l) ∙ i),
    λ a. collect-has n p x a.0 ∙ a.1,
  );
}
