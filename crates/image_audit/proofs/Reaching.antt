-- What the walk finds is what words of letters reach.
use Rattle.std.proofs.Common.{◌≡◌, inl, inr, ℕ, ◌<◌, List, [], ◌∷◌, Option, Some, None, slice_get, Contains, refl, sym, ap, subst, ◌∙◌, arith}
use Rattle.image_layout.specs.Layout.{state_total, row_width}
use Rattle.image_layout.specs.Fields.{entry_at, wheel_parts_of}
use Rattle.image_layout.specs.Tables.{KeepsLayout}
use Rattle.position_nfa.specs.declared.pair.Pair.{Pair}
use Rattle.position_nfa.specs.Alphabets.{Alphabet, IsAlphabetOf, width}
use Rattle.position_nfa.specs.Families.{IsReached}
use Rattle.position_nfa.specs.Family as family
use Rattle.position_nfa.specs.Sound.{IsDue}
use Rattle.position_nfa.specs.Step.{same, next_state, dead_state, start_state}
use Rattle.subset_build.proofs.Reached.{dead_reached}
use Rattle.table_images.specs.Images.{state_at, table_of}
use Rattle.image_audit.specs.Agreements.{AgreesInRows, AgreesInStates, EntryIsDue}
use Rattle.image_audit.specs.Walks.{IsFound, AtFirst, AtEntry, AreAllFound}
use Rattle.image_audit.proofs.Sizes.{width_same}
use Rattle.image_audit.proofs.Firsts.{state_listed, number_within, number_state, one_number, dead_is, start_is}

module _ (a : Alphabet) (b : List ℕ) (layout : KeepsLayout b) (agrees : AgreesInRows a b) where
  abbrev states : List Pair
  states = (table_of b).states

  abbrev in_states : AgreesInStates a b
  in_states = agrees.kinds.states

  wide : row_width b ≡ width a
  wide = width_same a b in_states.started.lists

  some_two : 1 < state_total b
  some_two = let some = layout.header.counts.states.0 in omega (arith, some)

  module _ (is : IsAlphabetOf (wheel_parts_of b) a) where
    found_reached : (n : ℕ) → n < state_total b → IsFound b n → IsReached a (state_at b n)
    found_reached n lt (AtFirst _ (inl e)) = subst (λ m. IsReached a (state_at b m)) (sym e) (subst (IsReached a) (sym (dead_is a b layout in_states)) (dead_reached a (wheel_parts_of b) is))
    found_reached n lt (AtFirst _ (inr e)) = subst (λ m. IsReached a (state_at b m)) (sym e) (subst (IsReached a) (sym (start_is a b layout in_states)) ([], refl))
    found_reached n lt (AtEntry q _ there from entry) = by (found_reached q there from) (next_state a (state_at b q) entry.0) refl
      where
        inside : entry.0 < width a
        inside = omega (arith, entry.1.0, wide)

        due : EntryIsDue a b q entry.0
        due = agrees.entries q entry.0 there inside

        by : IsReached a (state_at b q) → (o : Option Pair) → next_state a (state_at b q) entry.0 ≡ o → IsReached a (state_at b n)
        by reached None e =
            let zero_entry : entry_at b q entry.0 ≡ 0 = subst (λ o. IsDue states o (entry_at b q entry.0)) e due in
            subst (λ m. IsReached a (state_at b m)) (sym (entry.1.1 ∙ zero_entry)) (subst (IsReached a) (sym (dead_is a b layout in_states)) (dead_reached a (wheel_parts_of b) is))
        by reached (Some p) e =
            let at : slice_get states (entry_at b q entry.0) ≡ Some p = subst (λ o. IsDue states o (entry_at b q entry.0)) e due in
            let state : state_at b n ≡ p = number_state b n p (ap (slice_get states) entry.1.1 ∙ at) in
            (entry.0 ∷ reached.0, (state_at b q, reached.1, inside, e ∙ ap Some (sym state)))

    -- every state that the walk finds is reached
    pub found_is_reached : (found : List ℕ) (n : ℕ) → AreAllFound b found → n < state_total b → Contains found n → IsReached a (state_at b n)
    found_is_reached found n all lt h = found_reached n lt (all.sound n h)

  word_found : (found : List ℕ) → AreAllFound b found → (word : List ℕ) (p : Pair) → family.Reaches same (next_state a) (width a) (dead_state a) (start_state a) word p
      → (n : ℕ) × (Contains found n × (slice_get states n ≡ Some p))
  word_found found all [] p e = (1, (all.start, state_listed b 1 some_two ∙ ap Some (start_is a b layout in_states ∙ sym e)))
  word_found found all (c ∷ word) p (q, r, lt, h) =
      let before = word_found found all word q r in
      let n : ℕ = before.0 in
      let there : n < state_total b = number_within b n q before.1.1 in
      let is : state_at b n ≡ q = number_state b n q before.1.1 in
      let due : EntryIsDue a b n c = agrees.entries n c there lt in
      let at : slice_get states (entry_at b n c) ≡ Some p = subst (λ o. IsDue states o (entry_at b n c)) (ap (λ s. next_state a s c) is ∙ h) due in
      (entry_at b n c, (all.rows n before.1.0 c (omega (arith, lt, wide)), at))

  -- and every state that is reached is found
  pub reached_is_found : (found : List ℕ) (n : ℕ) → AreAllFound b found → n < state_total b → IsReached a (state_at b n) → Contains found n
  reached_is_found found n all lt reached =
      let w = word_found found all reached.0 (state_at b n) reached.1 in
      let same_number : w.0 ≡ n = one_number b layout in_states.once w.0 n (state_at b n) w.1.1 (state_listed b n lt) in
      subst (Contains found) same_number w.1.0
