-- A table that agrees in every part is sound.
use Rattle.std.proofs.Common.{◌≡◌, inl, inr, ℕ, ◌+◌, ◌*◌, ◌<◌, false, List, [], ◌∷◌, length, Some, slice_get, get_or, Contains, sym, ap, subst, ◌∙◌, arith}
use Rattle.std.proofs.lemmas.Bool.{cases_Bool}
use Rattle.std.proofs.lemmas.Map.Keys.{IsDistinct-from_apart}
use Rattle.std.proofs.lemmas.Option.{get_or_from_slice_get}
use Rattle.image_layout.specs.Layout.{state_total, row_width}
use Rattle.image_layout.specs.Fields.{entry_at, kind_at, row_number_at, wheel_parts_of}
use Rattle.image_layout.specs.Tables.{KeepsLayout}
use Rattle.position_nfa.specs.declared.pair.Pair.{Pair}
use Rattle.position_nfa.specs.Alphabets.{Alphabet, IsAlphabetOf, width}
use Rattle.position_nfa.specs.Families.{IsReached, IsLeastFamily}
use Rattle.position_nfa.specs.Family as family
use Rattle.position_nfa.specs.Sound.{Nothing, IsDue, SetSays, AreSoundOver}
use Rattle.position_nfa.specs.Step.{same, next_state, dead_state, start_state}
use Rattle.position_nfa.proofs.States.{same-equal}
use Rattle.subset_build.proofs.FamilyLaws.{Contains-slice_get, slice_get-Contains}
use Rattle.table_images.specs.Images.{set_at, state_at, table_of, IsSoundImage}
use Rattle.table_images.specs.Kinds.{says_of}
use Rattle.image_audit.specs.Agreements.{EntryIsDue, AgreesInStates, AgreesInLists, Agrees}
use Rattle.image_audit.proofs.Listed.{at_map}
use Rattle.image_audit.proofs.Sizes.{length-listed, width_same}
use Rattle.image_audit.proofs.Firsts.{state_listed, number_within, number_state, once_states, dead_is, start_is}

pub row_inside : (q c w n : ℕ) → c < w → q < n → q * w + c < n * w
row_inside q c w n lt there = grind (arith, lt, there)

module _ (a : Alphabet) (b : List ℕ) (layout : KeepsLayout b) (agrees : Agrees a b) where
  abbrev states : List Pair
  states = (table_of b).states

  abbrev in_states : AgreesInStates a b
  in_states = agrees.rows.kinds.states

  abbrev lists : AgreesInLists a b
  lists = in_states.started.lists

  size : length states ≡ state_total b
  size = length-listed (state_at b) (state_total b)

  some_two : 1 < state_total b
  some_two = let some = layout.header.counts.states.0 in omega (arith, some)

  apart : (i j : ℕ) (d : Pair) → i < j → j < length states → same (get_or states i d) (get_or states j d) ≡ false
  apart i j d lt inside = elim (cases_Bool (same (get_or states i d) (get_or states j d))) [
    | inr other ↦ other
    | inl equal ↦
        let there : j < state_total b = omega (arith, inside, size) in
        let first = get_or_from_slice_get states i (state_at b i) d (state_listed b i (omega (arith, lt, there))) in
        let second = get_or_from_slice_get states j (state_at b j) d (state_listed b j there) in
        absurd (once_states b layout in_states.once i j lt there (sym first ∙ (same-equal (get_or states i d) (get_or states j d) equal ∙ second)))
  ]

  sound : (p : Pair) → Contains states p → IsReached a p
  sound p h =
      let at = slice_get-Contains states p h in
      subst (IsReached a) (number_state b h.0 p at) (agrees.reached h.0 (number_within b h.0 p at))

  word_there : (word : List ℕ) (p : Pair) → family.Reaches same (next_state a) (width a) (dead_state a) (start_state a) word p → Contains states p
  word_there [] p e = Contains-slice_get states 1 p (state_listed b 1 some_two ∙ ap Some (start_is a b layout in_states ∙ sym e))
  word_there (c ∷ word) p (q, r, lt, h) =
      let before = word_there word q r in
      let at = slice_get-Contains states q before in
      let n : ℕ = before.0 in
      let due : EntryIsDue a b n c = agrees.rows.entries n c (number_within b n q at) lt in
      Contains-slice_get states (entry_at b n c) p (subst (λ o. IsDue states o (entry_at b n c)) (ap (λ s. next_state a s c) (number_state b n q at) ∙ h) due)

  family_is : IsLeastFamily a states
  family_is = record {
    once = IsDistinct-from_apart same states apart;
    sound = sound;
    whole = λ p reached. word_there reached.0 p reached.1;
  }

  says_at : (q : ℕ) → q < state_total b → get_or (table_of b).says q Nothing ≡ says_of (kind_at b q)
  says_at q lt = get_or_from_slice_get (table_of b).says q (says_of (kind_at b q)) Nothing (at_map (λ k. says_of (kind_at b k)) (state_total b) q lt)

  says : (q : ℕ) (p : Pair) → slice_get states q ≡ Some p → SetSays a p.set (get_or (table_of b).says q Nothing)
  says q p at =
      let lt = number_within b q p at in
      subst (λ (s : Pair). SetSays a s.set (get_or (table_of b).says q Nothing)) (number_state b q p at) (subst (SetSays a (set_at b q)) (sym (says_at q lt)) (agrees.rows.kinds.kinds q lt))

  wide : row_width b ≡ width a
  wide = width_same a b lists

  row_entry : (q c : ℕ) → q < state_total b → c < width a → get_or (table_of b).rows (q * width a + c) 0 ≡ entry_at b q c
  row_entry q c there lt =
      let inside : q * width a + c < state_total b * width a = row_inside q c (width a) (state_total b) lt there in
      let within : q * width a + c < state_total b * row_width b = subst (λ w. q * width a + c < state_total b * w) (sym wide) inside in
      get_or_from_slice_get (table_of b).rows (q * width a + c) (row_number_at b (q * width a + c)) 0 (at_map (row_number_at b) (state_total b * row_width b) (q * width a + c) within)
      ∙ ap (λ w. row_number_at b (q * w + c)) (sym wide)

  due : (q c : ℕ) (p : Pair) → slice_get states q ≡ Some p → c < width a → q * width a + c < length (table_of b).rows → IsDue states (next_state a p c) (get_or (table_of b).rows (q * width a + c) 0)
  due q c p at lt inside =
      let there = number_within b q p at in
      subst (IsDue states (next_state a p c)) (sym (row_entry q c there lt)) (subst (λ s. IsDue states (next_state a s c) (entry_at b q c)) (number_state b q p at) (agrees.rows.entries q c there lt))

  pub sound_table : AreSoundOver a (table_of b)
  sound_table = record {
    places = lists.places;
    time_cuts = lists.times;
    ratio_cuts = lists.ratios;
    family = family_is;
    dead = state_listed b 0 (omega (arith, some_two)) ∙ ap Some (dead_is a b layout in_states);
    start = state_listed b 1 some_two ∙ ap Some (start_is a b layout in_states);
    all_say = length-listed (λ q. says_of (kind_at b q)) (state_total b) ∙ sym size;
    says = says;
    entries = length-listed (row_number_at b) (state_total b * row_width b) ∙ (ap (λ w. state_total b * w) wide ∙ ap (λ n. n * width a) (sym size));
    due = due;
  }

  pub sound_image : IsAlphabetOf (wheel_parts_of b) a → IsSoundImage b
  sound_image is = record { layout = layout; sound = (a, (is, sound_table)) }
