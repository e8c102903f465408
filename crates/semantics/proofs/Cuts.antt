-- A cut of a scale: a set of grades that holds the top, not the bottom, and with a grade each one above it.
-- Every cut turns the greater of two grades into `||` and the lesser into `&&`, and the cuts tell grades apart:
-- so what is to be shown of grades is shown of each cut, where a grade is a truth value.
use Rattle.std.proofs.Common.{◌≡◌, Bool, true, false, cond, not, ◌&&◌, ◌||◌, sym, refl, ap, ◌∙◌, ⊎_elim, true≢false}
use mathlib.Core.Bool.{false≢true}
use Rattle.scale.specs.Laws.{Order, greater, lesser, above}
use Rattle.semantics.proofs.Sets.{sub_and_at}

pub record Cut {G : Type 0} (o : Order G) (h : G → Bool) : Type 0 where
  pub out : h o.bottom ≡ false
  pub holds_top : h o.top ≡ true
  pub up : (a b : G) → o.at_most a b ≡ true → h a ≡ true → h b ≡ true

or_high : (a b : Bool) → (a ≡ true → b ≡ true) → b ≡ (a || b)
or_high true b f = f refl
or_high false b f = refl

or_low : (a b : Bool) → (b ≡ true → a ≡ true) → a ≡ (a || b)
or_low true b f = refl
or_low false true f = f refl
or_low false false f = refl

and_high : (a b : Bool) → (b ≡ true → a ≡ true) → b ≡ (a && b)
and_high true b f = refl
and_high false true f = sym (f refl)
and_high false false f = refl

module _ {G : Type 0} (o : Order G) where
  pub le_refl : (a : G) → o.at_most a a ≡ true
  le_refl a = ⊎_elim (λ e. e) (λ e. e) (o.total a a)

  pub other_way : (a b : G) → o.at_most a b ≡ false → o.at_most b a ≡ true
  other_way a b n = ⊎_elim (λ e. absurd (true≢false (sym e ∙ n))) (λ e. e) (o.total a b)

  module _ (h : G → Bool) (cut : Cut o h) where
    pub cut-greater : (a b : G) → h (greater o a b) ≡ (h a || h b)
    unfolding greater
    cut-greater a b = go (o.at_most a b) refl
      where
        go : (t : Bool) → o.at_most a b ≡ t → h (cond t b a) ≡ (h a || h b)
        go true e = or_high (h a) (h b) (cut.up a b e)
        go false e = or_low (h a) (h b) (cut.up b a (other_way a b e))

    pub cut-lesser : (a b : G) → h (lesser o a b) ≡ (h a && h b)
    unfolding lesser
    cut-lesser a b = go (o.at_most a b) refl
      where
        go : (t : Bool) → o.at_most a b ≡ t → h (cond t a b) ≡ (h a && h b)
        go true e = sym (sub_and_at (h a) (h b) (cut.up a b e))
        go false e = and_high (h a) (h b) (cut.up b a (other_way a b e))

    -- what a cut holds is above the bottom
    pub cut-above : (a : G) → h a ≡ true → above o a ≡ true
    unfolding above
    cut-above a t = go (o.at_most a o.bottom) refl
      where
        go : (u : Bool) → o.at_most a o.bottom ≡ u → not u ≡ true
        go true e = absurd (true≢false (sym (cut.up a o.bottom e t) ∙ cut.out))
        go false e = refl

  -- the grades from g on, if g is above the bottom
  pub from_cut : (g : G) → o.at_most g o.bottom ≡ false → Cut o (o.at_most g)
  from_cut g n = record { out = n; holds_top = o.greatest g; up = λ a b e t. o.transitive g a b t e }

  -- the grades above the bottom
  pub above-cut : Cut o (above o)
  unfolding above
  above-cut = record { out = ap not (o.least o.bottom); holds_top = top_above; up = rising }
    where
      top_above : not (o.at_most o.top o.bottom) ≡ true
      top_above = go (o.at_most o.top o.bottom) refl
        where
          go : (u : Bool) → o.at_most o.top o.bottom ≡ u → not u ≡ true
          go true e = absurd (o.apart (o.antisymmetric o.bottom o.top (o.least o.top) e))
          go false e = refl

      rising : (a b : G) → o.at_most a b ≡ true → not (o.at_most a o.bottom) ≡ true → not (o.at_most b o.bottom) ≡ true
      rising a b e t = go (o.at_most b o.bottom) refl
        where
          go : (u : Bool) → o.at_most b o.bottom ≡ u → not u ≡ true
          go true k = absurd (false≢true (ap not (sym (o.transitive a b o.bottom e k)) ∙ t))
          go false k = refl

  -- what every cut keeps is in order
  pub le_by_cuts : (a b : G) → ((h : G → Bool) → Cut o h → h a ≡ true → h b ≡ true) → o.at_most a b ≡ true
  le_by_cuts a b f = go (o.at_most a o.bottom) refl
    where
      go : (u : Bool) → o.at_most a o.bottom ≡ u → o.at_most a b ≡ true
      go true e = o.transitive a o.bottom b e (o.least b)
      go false e = f (o.at_most a) (from_cut a e) (le_refl a)

  pub same_by_cuts : (a b : G) → ((h : G → Bool) → Cut o h → h a ≡ true → h b ≡ true) → ((h : G → Bool) → Cut o h → h b ≡ true → h a ≡ true) → a ≡ b
  same_by_cuts a b f g = o.antisymmetric a b (le_by_cuts a b f) (le_by_cuts b a g)

  pub bot_of : (a : G) → above o a ≡ false → a ≡ o.bottom
  unfolding above
  bot_of a n = go (o.at_most a o.bottom) refl n
    where
      go : (u : Bool) → o.at_most a o.bottom ≡ u → not u ≡ false → a ≡ o.bottom
      go true e m = o.antisymmetric a o.bottom e (o.least a)
      go false e m = absurd (true≢false m)
