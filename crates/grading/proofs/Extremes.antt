-- The greater and the lesser of grades: their neutral grades, and the order in which they are taken.
use Rattle.std.proofs.Common.{◌≡◌, Bool, ◌&&◌, ◌||◌, sym, ap, ◌∙◌}
use mathlib.Core.Bool.{and-true, and_comm, and_assoc, or-false, or_comm, or_assoc}
use Rattle.scale.specs.Laws.{Order, greater, lesser}
use Rattle.semantics.proofs.Cuts.{Cut, cut-greater, cut-lesser, same_by_cuts}

module _ {G : Type 0} (o : Order G) where
  -- grades on which every cut agrees are the same
  pub same-cuts : (a b : G) → ((h : G → Bool) → Cut o h → h a ≡ h b) → a ≡ b
  same-cuts a b f = same_by_cuts o a b (λ h cut t. sym (f h cut) ∙ t) (λ h cut t. f h cut ∙ t)

  pub lesser-top : (a : G) → lesser o o.top a ≡ a
  lesser-top a = same-cuts _ _ (λ h cut. cut-lesser o h cut o.top a ∙ ap (λ t. t && h a) cut.holds_top)

  pub lesser_of_top : (a : G) → lesser o a o.top ≡ a
  lesser_of_top a = same-cuts _ _ (λ h cut. cut-lesser o h cut a o.top ∙ ap (λ t. h a && t) cut.holds_top ∙ and-true (h a))

  pub lesser_turn : (a b c : G) → lesser o (lesser o a b) c ≡ lesser o b (lesser o a c)
  lesser_turn a b c = same-cuts _ _ λ h cut.
      cut-lesser o h cut (lesser o a b) c ∙ ap (λ t. t && h c) (cut-lesser o h cut a b ∙ and_comm (h a) (h b)) ∙ and_assoc (h b) (h a) (h c)
      ∙ sym (cut-lesser o h cut b (lesser o a c) ∙ ap (λ t. h b && t) (cut-lesser o h cut a c))

  pub greater-bottom : (a : G) → greater o o.bottom a ≡ a
  greater-bottom a = same-cuts _ _ (λ h cut. cut-greater o h cut o.bottom a ∙ ap (λ t. t || h a) cut.out)

  pub greater_of_bottom : (a : G) → greater o a o.bottom ≡ a
  greater_of_bottom a = same-cuts _ _ (λ h cut. cut-greater o h cut a o.bottom ∙ ap (λ t. h a || t) cut.out ∙ or-false (h a))

  pub greater_comm : (a b : G) → greater o a b ≡ greater o b a
  greater_comm a b = same-cuts _ _ (λ h cut. cut-greater o h cut a b ∙ or_comm (h a) (h b) ∙ sym (cut-greater o h cut b a))

  pub greater_turn : (a b c : G) → greater o (greater o a b) c ≡ greater o b (greater o a c)
  greater_turn a b c = same-cuts _ _ λ h cut.
      cut-greater o h cut (greater o a b) c ∙ ap (λ t. t || h c) (cut-greater o h cut a b ∙ or_comm (h a) (h b)) ∙ or_assoc (h b) (h a) (h c)
      ∙ sym (cut-greater o h cut b (greater o a c) ∙ ap (λ t. h b || t) (cut-greater o h cut a c))
