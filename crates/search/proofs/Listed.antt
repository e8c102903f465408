-- The stable sets, in rising order.
use Rattle.std.proofs.Common.{◌≡◌, ℕ, ◌^◌, ◌<◌, ◌≤◌, List, Decides, Option, sym, ap, ◌∙◌, subst, ⊎_elim, arith, MatchOption}
use lib.Bits.{bit_and}
use Rattle.std.proofs.lemmas.Bool.{cases_order}
use Rattle.semantics.specs.Sets.{width, has, adding, others, In, Out, Lowest}
use Rattle.semantics.specs.declared.rule.PlainRule.{PlainRule}
use Rattle.semantics.proofs.Sets.{has-below, has-none, agree-lt, in_others, out-others, out_from, not_both}
use Rattle.semantics.proofs.Members.{option_weaker}
use Rattle.search.specs.Admissible.{Fitting, Least, NoSuch, Stable}
use Rattle.search.specs.Listing.{Later, Branch}
use Rattle.search.proofs.Forced.{undecided, fits_any}
use Rattle.search.proofs.Pivots.{Pivot, pivot, wanted_turns, wanted_agrees, agrees_wanted}
use Rattle.search.proofs.Stables.{stable-admissible, admissible-stable}

-- one property in place of another that the same numbers have
carried : (P Q : ℕ → Type 0) → ((a : ℕ) → P a → Q a) → ((a : ℕ) → Q a → P a) → (o : Option ℕ) → MatchOption o (NoSuch P) (Least P) → MatchOption o (NoSuch Q) (Least Q)
carried P Q to from o h =
    option_weaker o (NoSuch P) (NoSuch Q) (Least P) (Least Q) h
    (λ none b q. none b (from b q))
    (λ a f. record { passes = to a f.passes; least = λ b q. f.least b (from b q) })

module _ (rs : List PlainRule) where
  pub first_listed : (o : Option ℕ) → MatchOption o (NoSuch (Fitting 0 rs undecided)) (Least (Fitting 0 rs undecided)) → MatchOption o (NoSuch (Stable rs)) (Least (Stable rs))
  first_listed =
      carried (Fitting 0 rs undecided) (Stable rs)
      (λ a f. admissible-stable rs a f.0)
      (λ a t. (stable-admissible rs a t, fits_any a))

  module _ (set j : ℕ) where
    module _ (higher : ℕ) (low : set < 2 ^ width) (up : (x : ℕ) → Decides (has higher x) ((j < x) × (x < width))) where
      abbrev pub Chosen : ℕ → Type 0
      Chosen = Fitting 0 rs (record { present = adding (bit_and set higher) j; absent = bit_and (others width set) higher })

      pub branch-listed : (o : Option ℕ) → MatchOption o (NoSuch Chosen) (Least Chosen) → MatchOption o (NoSuch (Branch rs set j)) (Least (Branch rs set j))
      branch-listed =
          carried Chosen (Branch rs set j)
          (λ a f. record {
            stands = admissible-stable rs a f.0;
            turns = wanted_turns width set j higher low up a f.1;
            agrees = wanted_agrees width set j higher low up a f.0.below f.1;
          })
          (λ a b. (stable-admissible rs a b.stands, agrees_wanted width set j higher low up a b.turns b.agrees))

    branch_later : (A : ℕ) → Out j set → Branch rs set j A → Later rs set A
    branch_later A o b = (b.stands, agree-lt j set A b.agrees o b.turns)

  module _ (set : ℕ) where
    -- no stable set branches off at an atom below n
    abbrev pub Passed : ℕ → Type 0
    Passed n = (j : ℕ) → j < n → Out j set → NoSuch (Branch rs set j)

    -- past the last atom nothing is left
    pub later_none : (n : ℕ) → Passed n → width ≤ n → NoSuch (Later rs set)
    later_none n passed l B (t, h) =
        let p = pivot set B h in
        let k = has-below width B p.atom (stable-admissible rs B t).below p.turns in
        passed p.atom (omega arith) p.lacks B (record { stands = t; turns = p.turns; agrees = p.agrees })

    -- the first atom at which one branches off gives the least
    pub later_found : (n a : ℕ) → Passed n → Out n set → Least (Branch rs set n) a → Least (Later rs set) a
    later_found n a passed o f = record { passes = branch_later set n a o f.passes; least = least }
      where
        -- a branch at a greater atom leads to a greater set
        higher : (B : ℕ) (p : Pivot set B) → n < p.atom → a ≤ B
        higher B p l =
            let agrees = f.passes.agrees in
            let lt : a < B = agree-lt p.atom a B (λ x h. sym (agrees x (omega arith)) ∙ p.agrees x h) (sym (agrees p.atom l) ∙ p.lacks) p.turns in
            omega arith

        least : (B : ℕ) → Later rs set B → a ≤ B
        least B (t, h) =
            let p = pivot set B h in
            let off : Branch rs set p.atom B = record { stands = t; turns = p.turns; agrees = p.agrees } in
            ⊎_elim
            (λ (e : p.atom ≡ n). f.least B (subst (λ (k : ℕ). Branch rs set k B) e off))
            (λ d. ⊎_elim (λ (l : p.atom < n). absurd (passed p.atom l p.lacks B off)) (λ (l : n < p.atom). higher B p l) d)
            (cases_order p.atom n)

    -- The walk over the atoms that the set lacks: `rest` are those to come, and no stable set branches off at the others.
    pub record Walking (rest : ℕ) : Type 0 where
      pub lacked : (j : ℕ) → In j rest → Out j set
      pub tried : (j : ℕ) → j < width → Out j set → Out j rest → NoSuch (Branch rs set j)

    pub walk_start : (rest : ℕ) → set < 2 ^ width → rest ≡ others width set → Walking rest
    walk_start rest low e = record {
      lacked = λ j i. let k = subst (λ (A : ℕ). In j A) e i in out_from j set (λ m. not_both j (others width set) k (out-others width set j low m));
      tried = λ j l o out. absurd (not_both j rest (subst (λ (A : ℕ). In j A) (sym e) (in_others width set j l low o)) out);
    }

    pub walk_found : (rest n a : ℕ) → Walking rest → n < width → Lowest n rest → Least (Branch rs set n) a → Least (Later rs set) a
    walk_found rest n a w l first f = later_found n a (λ j k o. w.tried j (omega arith) o (first.below j k)) (w.lacked n first.member) f

    pub walk_end : (rest : ℕ) → Walking rest → rest ≡ 0 → NoSuch (Later rs set)
    walk_end rest w e = later_none width (λ j l o. w.tried j l o (ap (λ (A : ℕ). has A j) e ∙ has-none j)) (omega arith)
