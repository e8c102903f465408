-- The rules that a set breaks, by rank, and the candidate that is objected to least.
use Rattle.std.proofs.Common.{◌≡◌, ℕ, ◌-◌, ◌^◌, ◌<◌, ◌≤◌, max, Bool, true, false, cond, true≢false, ◌&&◌, ◌⊎◌, List, [], ◌∷◌, map, get_or, Some, None, Decides, Option, leb, sym, refl, inl, inr, ⊎_elim, arith, MatchOption}
use Rattle.std.specs.List.{All, Contains, filter, fold, list_any, reduce}
use Rattle.std.proofs.lemmas.List.Elements.{All-nil, All-cons, All-contains, Contains-append_left, Contains-append_right, Contains-push}
use Rattle.std.proofs.lemmas.List.Folds.{Any-from_list_any, list_any_at}
use Rattle.std.proofs.lemmas.Bool.{both_ways, cases_Bool, cases_lt, le-leb, leb-true}
use Rattle.std.proofs.lemmas.Bool.Decides.{Decides-and}
use Rattle.semantics.specs.Sets.{disjoint}
use Rattle.semantics.specs.Rules.{breaks}
use Rattle.semantics.specs.Plain.{weigh, Broken}
use Rattle.semantics.specs.declared.rule.PlainRule.{PlainRule}
use Rattle.semantics.proofs.Sets.{decides_disjoint}
use Rattle.semantics.proofs.Reducts.{decides_breaks}
use Rattle.semantics.proofs.Members.{option_weaker}
use Rattle.search.specs.Admissible.{Fitting, NoSuch, Candidate, LeastObjected}
use Rattle.search.specs.Objection.{Unbroken, Worst}
use Rattle.search.specs.declared.bounds.Bounds.{Bounds}
use Rattle.search.proofs.Bridge.{keeps-out, keeps_in}

-- the test for a rule that the set breaks
abbrev pub is_broken : ℕ → PlainRule → Bool
is_broken A q = disjoint q.neg A && breaks A (weigh q q.rank)

pub decides_broken : (A : ℕ) (q : PlainRule) → Decides (is_broken A q) (Broken A q)
decides_broken A q =
    let d = Decides-and _ _ (decides_disjoint q.neg A) (decides_breaks A (weigh q q.rank)) in
    (λ t. let b = d.0 t in (b.0, b.1.0, b.1.1), λ b. d.1 (b.0, (b.1, b.2)))

module _ (t A : ℕ) where
  abbrev strong_broken : PlainRule → Bool
  strong_broken q = leb t q.rank && is_broken A q

  decides-strong : (q : PlainRule) → Decides (strong_broken q) ((t ≤ q.rank) × Broken A q)
  decides-strong q = Decides-and _ _ (leb-true t q.rank, le-leb t q.rank) (decides_broken A q)

  -- some rule from the rank t on is broken, or none is
  above_or_below : (rs : List PlainRule) → ((p : PlainRule) × Contains rs p × Broken A p × (t ≤ p.rank)) ⊎ All (λ q. Broken A q → q.rank < t) rs
  above_or_below rs =
      ⊎_elim
      (λ e. let a = Any-from_list_any strong_broken rs e in let b = (decides-strong a.1).0 a.4 in inl (a.1, (a.0, a.2, a.3), b.1, b.0))
      (λ e. inr (λ k d l b. ⊎_elim (λ i. i) (λ i. absurd (both_ways _ e (list_any_at strong_broken rs k d l ((decides-strong (get_or rs k d)).1 (i, b))))) (cases_lt _ t)))
      (cases_Bool (list_any strong_broken rs))

-- ---- the greatest rank of a broken rule

module _ (A : ℕ) where
  -- m is the rank of a rule of the list that is broken
  abbrev Attained : List PlainRule → ℕ → Type 0
  Attained rs m = (p : PlainRule) × Contains rs p × Broken A p × (p.rank ≡ m)

  attained-tail : (q : PlainRule) (rs : List PlainRule) (m : ℕ) → Attained rs m → Attained (q ∷ rs) m
  attained-tail q rs m a = (a.0, Contains-append_right (q ∷ []) rs a.0 a.1, a.2, a.3)

  -- the rule, where it is broken, has at most the rank m
  abbrev AtMost : ℕ → PlainRule → Type 0
  AtMost m q = Broken A q → q.rank ≤ m

  -- m is the greatest of n and the ranks of the rules that are broken
  record Greatest (rs : List PlainRule) (n m : ℕ) : Type 0 where
    bound : n ≤ m
    most : All (AtMost m) rs
    attained : (m ≡ n) ⊎ Attained rs m

  greatest : (rs : List PlainRule) (n : ℕ) → Greatest rs n (fold max n (map (λ (q : PlainRule). q.rank) (filter (is_broken A) rs)))
  greatest [] n = record { bound = omega arith; most = All-nil (AtMost n); attained = inl refl }
  greatest (q ∷ rs) n = go (is_broken A q) (decides_broken A q) (greatest rs n) (greatest rs (max n q.rank))
    where
      ranks : List ℕ
      ranks = map (λ (p : PlainRule). p.rank) (filter (is_broken A) rs)

      go : (b : Bool) → Decides b (Broken A q) → Greatest rs n (fold max n ranks) → Greatest rs (max n q.rank) (fold max (max n q.rank) ranks) → Greatest (q ∷ rs) n (fold max n (map (λ (p : PlainRule). p.rank) (cond b (q ∷ filter (is_broken A) rs) (filter (is_broken A) rs))))
      go true d g h = record {
        bound = omega (arith, h.bound);
        most = All-cons (AtMost _) q rs (λ b. omega (arith, h.bound)) h.most;
        attained =
            ⊎_elim
            (λ e. ⊎_elim (λ l. inr (q, Contains-append_left (q ∷ []) rs q (Contains-push [] q), d.0 refl, omega (arith, e, l))) (λ l. inl (omega (arith, e, l))) (cases_lt n q.rank))
            (λ a. inr (attained-tail q rs _ a))
            h.attained;
      }
      go false d g h = record {
        bound = g.bound;
        most = All-cons (AtMost _) q rs (λ b. absurd (true≢false (sym (d.1 b)))) g.most;
        attained = ⊎_elim inl (λ a. inr (attained-tail q rs _ a)) g.attained;
      }

  -- the greatest of the ranks of the rules that are broken
  abbrev pub worst_rank : List PlainRule → Option ℕ
  worst_rank rs = reduce max (map (λ (q : PlainRule). q.rank) (filter (is_broken A) rs))

  from_greatest : (q : PlainRule) (rs : List PlainRule) (m : ℕ) → Broken A q → Greatest rs q.rank m → Worst (q ∷ rs) A m
  from_greatest q rs m b g =
      let most = All-cons (AtMost m) q rs (λ _. g.bound) g.most in
      ⊎_elim
      (λ e. record { rule = q; stands = Contains-append_left (q ∷ []) rs q (Contains-push [] q); broken = b; ranked = sym e; most = most })
      (λ a. record { rule = a.0; stands = Contains-append_right (q ∷ []) rs a.0 a.1; broken = a.2; ranked = a.3; most = most })
      g.attained

  pub worst_reduced : (rs : List PlainRule) → MatchOption (worst_rank rs) (Unbroken rs A) (Worst rs A)
  worst_reduced [] = All-nil (λ q. ¬ (Broken A q))
  worst_reduced (q ∷ rs) = go (is_broken A q) (decides_broken A q) (worst_reduced rs)
    where
      go : (b : Bool) → Decides b (Broken A q) → MatchOption (worst_rank rs) (Unbroken rs A) (Worst rs A) → MatchOption (reduce max (map (λ (p : PlainRule). p.rank) (cond b (q ∷ filter (is_broken A) rs) (filter (is_broken A) rs)))) (Unbroken (q ∷ rs) A) (Worst (q ∷ rs) A)
      go true d w = from_greatest q rs _ (d.0 refl) (greatest rs q.rank)
      go false d w =
          option_weaker (worst_rank rs) (Unbroken rs A) (Unbroken (q ∷ rs) A) (Worst rs A) (Worst (q ∷ rs) A) w
          (λ none. All-cons (λ p. ¬ (Broken A p)) q rs (λ b. true≢false (sym (d.1 b))) none)
          (λ m v. record {
            rule = v.rule;
            stands = Contains-append_right (q ∷ []) rs v.rule v.stands;
            broken = v.broken;
            ranked = v.ranked;
            most = All-cons (AtMost m) q rs (λ b. absurd (true≢false (sym (d.1 b)))) v.most;
          })

-- ---- the candidates

module _ (rs : List PlainRule) (bounds : Bounds) where
  -- a candidate that breaks no rule from the threshold on is admissible
  candidate_fitting : (t A : ℕ) → Candidate rs bounds A → All (λ q. Broken A q → q.rank < t) rs → Fitting t rs bounds A
  candidate_fitting t A c low = (record { below = c.below; founds = c.founds; keeps = keeps_in rs A t low }, c.fits)

  -- ---- the rounds: the best candidate so far, with the rank of the worst rule that it breaks; none before the first round

  abbrev pub Best : Option ℕ → ℕ → Type 0
  Best best n = MatchOption best (n ≡ 2 ^ 64 - 1) (λ a. Candidate rs bounds a × Worst rs a n)

  -- the next threshold is lower
  pub worst_falls : (t A n : ℕ) → Fitting t rs bounds A → Worst rs A n → n < t
  worst_falls t A n f w =
      let below : w.rule.rank < t = All-contains (λ q. Broken A q → q.rank < t) rs w.rule (keeps-out rs A t f.0.keeps) w.stands w.broken in
      omega (arith, w.ranked)

  -- no set is admissible at the last threshold
  pub objected : (best : Option ℕ) (n : ℕ) → Best best n → NoSuch (Fitting n rs bounds) → MatchOption best (NoSuch (Candidate rs bounds)) (LeastObjected rs bounds)
  objected None n top none = λ B c. none B (candidate_fitting n B c (λ k d l b. omega (arith, (get_or rs k d).low.1, top)))
  objected (Some a) n (c, w) none = record {
    candidate = c;
    least = λ B d q h b.
        let most : q.rank ≤ n = All-contains (λ q. Broken a q → q.rank ≤ n) rs q w.most h b in
        ⊎_elim
        (λ p. (p.0, p.1, p.2, omega (arith, p.3)))
        (λ low. absurd (none B (candidate_fitting n B d low)))
        (above_or_below n B rs);
  }
