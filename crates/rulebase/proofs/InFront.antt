-- A fetch into the front of a longer buffer.
use Rattle.std.proofs.Common.{◌≡◌, ℕ, ◌+◌, ◌<◌, ◌≤◌, min, cond, eqb, ltb, List, ◌++◌, map, length, take, drop, Some, None, Ok, Option, sym, refl, ap, ◌∙◌, subst, ⊎_elim, append_assoc, arith, take-append-drop, length-append, length-take}
use Rattle.std.proofs.lemmas.List.{take-append-le, drop-append-le}
use Rattle.std.proofs.lemmas.Bool.{lt-ltb, cond-true, cases_lt}
use Rattle.scale.specs.Laws.{Order, Scaled}
use Rattle.semantics.specs.Sets.{width}
use Rattle.semantics.specs.Plain.{rows_of, over}
use Rattle.semantics.specs.Rules.{Rule, reading}
use Rattle.grading.proofs.Laying.{length-rows, over-short}
use Rattle.rulebase.specs.Calls.{state_in, told_fetch, fetched_rows}
use Rattle.rulebase.specs.Runs.{Performs}
use Rattle.rulebase.specs.declared.base.RuleBase.{RuleBase}
use Rattle.rulebase.specs.Reference.{State, Standing, stale, after, refused, model, held, answer, reply}
use Rattle.rulebase.specs.declared.call.Call.TheVariants.{Fetch}

-- a fetch into a short buffer is refused
short : {G : Type 0} (o : Order G) (w : ℕ) (ps : List (Option (Rule G))) (t : Standing) (n : ℕ) → n < w → (k : ℕ) × (reply o w (record { places = ps; standing = t }) (Fetch n) ≡ refused k)
unfolding reply
short o w ps stale n l = (6, refl)
short o w ps (after m) n l = (7, ap (λ (k : ℕ). cond (eqb k 0) (answer o w (record { places = ps; standing = after m }) (Fetch n)) (refused k)) (cond-true (ltb n w) 7 0 (lt-ltb n w l)))

module _ {G R : Type 0} (s : Scaled G R) (st : State G) where
  told-long : (A n : ℕ) (buffer : List R) → told_fetch s (Ok (Some A)) buffer ≡ reply s.order width st (Fetch n) → width ≤ n
  told-long A n buffer e = ⊎_elim (λ (l : n < width). let r = short s.order width st.places st.standing n l in absurd (cc (e, r.1))) (λ (l : width ≤ n). l) (cases_lt n width)

  module _ (k room : ℕ) (rows buffer : List R) (is : k ≡ min room (length rows)) where
    pub front_length : length (take k rows) ≡ min room (length rows)
    front_length = let h = length-take k rows in omega arith

    module _ (A : ℕ) (tells : told_fetch s (Ok (Some A)) buffer ≡ reply s.order width st (Fetch (length (take k rows)))) (laid : buffer ≡ over (rows_of s width (reading s.order width (held st.places) A)) (take k rows)) where
      abbrev f : ℕ → G
      f = reading s.order width (held st.places) A

      long : width ≤ length (take k rows)
      long = told-long A (length (take k rows)) buffer tells

      front : buffer ≡ rows_of s width f ++ drop width (take k rows)
      front = laid ∙ over-short (rows_of s width f) (take k rows) (let h = length-rows s width f in let room = long in omega arith) ∙ ap (λ n. rows_of s width f ++ drop n (take k rows)) (length-rows s width f)

      front_rows : buffer ++ drop k rows ≡ over (rows_of s width f) rows
      front_rows =
          let xs = rows_of s width f in
          let w : length xs ≡ width = length-rows s width f in
          let h = front_length in
          let room = long in
          ap (λ b. b ++ drop k rows) front
          ∙ append_assoc xs (drop width (take k rows)) (drop k rows)
          ∙ ap (λ l. xs ++ l) (sym (drop-append-le width (take k rows) (drop k rows) room) ∙ ap (drop width) (take-append-drop k rows))
          ∙ sym (over-short xs rows (omega arith) ∙ ap (λ n. xs ++ drop n rows) w)

      front_told : model A (map s.read_of (take width (buffer ++ drop k rows))) ≡ reply s.order width st (Fetch (min room (length rows)))
      front_told =
          let w : length (rows_of s width f) ≡ width = length-rows s width f in
          let e : length buffer ≡ length (rows_of s width f) + length (drop width (take k rows)) = ap (λ l. length l) front ∙ length-append (rows_of s width f) (drop width (take k rows)) in
          ap (λ l. model A (map s.read_of l)) (take-append-le width buffer (drop k rows) (omega arith))
          ∙ tells
          ∙ ap (λ n. reply s.order width st (Fetch n)) front_length

    -- what the answer says, and what the whole buffer holds after it
    pub front_fetched : (r : Option ℕ) → told_fetch s (Ok r) buffer ≡ reply s.order width st (Fetch (length (take k rows))) → buffer ≡ fetched_rows s st (Ok r) (take k rows) → (told_fetch s (Ok r) (buffer ++ drop k rows) ≡ reply s.order width st (Fetch (min room (length rows)))) × (buffer ++ drop k rows ≡ fetched_rows s st (Ok r) rows)
    front_fetched None a b = (a ∙ ap (λ n. reply s.order width st (Fetch n)) front_length, ap (λ l. l ++ drop k rows) b ∙ take-append-drop k rows)
    front_fetched (Some A) a b = (front_told A a b, front_rows A a b)

-- the whole buffer is lent for the call, and the fetch takes its front
pub front_performs : {G R : Type 0} (s : Scaled G R) (b b' : RuleBase G R) (k room : ℕ) (rows buffer : List R) (r : Option ℕ) → k ≡ min room (length rows) → Performs s b (Fetch (length (take k rows))) (told_fetch s (Ok r) buffer) b' → buffer ≡ fetched_rows s (state_in s b) (Ok r) (take k rows) → Performs s b (Fetch (min room (length rows))) (told_fetch s (Ok r) (buffer ++ drop k rows)) b'
front_performs s b b' k room rows buffer r is h kept =
    let p = subst (λ (n : ℕ). Performs s b (Fetch n) (told_fetch s (Ok r) buffer) b') (front_length s (state_in s b) k room rows buffer is) h in
    record {
      answer = (front_fetched s (state_in s b) k room rows buffer is r h.answer kept).0;
      state = p.state;
      rules = p.rules;
      rows = p.rows;
      tables = p.tables;
    }
