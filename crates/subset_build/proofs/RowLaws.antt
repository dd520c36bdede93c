-- The entries of rows, and the number of the empty set.
use Rattle.std.proofs.Common.{◌≡◌, ◌∷◌, ◌++◌, ℕ, zero, suc, ◌+◌, ◌*◌, ◌<◌, ◌≤◌, inl, inr, true, false, List, [], length, Option, Some, None, slice_get, get_or, Contains, refl, sym, ap, subst, ◌∙◌, arith, length-append, add-one}
use Rattle.std.proofs.Math.Nat.{mul-le-mul_left}
use Rattle.std.proofs.lemmas.Bool.{cases_lt}
use Rattle.std.proofs.lemmas.List.{get_or_append_left, get_or-append-add}
use Rattle.std.proofs.lemmas.Option.{slice_get_within}
use Rattle.place_words.specs.Words.{has_none, set_of}
use Rattle.place_words.proofs.SetOf.{set_of-empty}
use Rattle.position_nfa.specs.declared.pair.Pair.{Pair}
use Rattle.position_nfa.specs.Alphabets.{Alphabet, width, count, time_classes, ratio_classes}
use Rattle.position_nfa.specs.Families.{explored, taken, numbered_if}
use Rattle.position_nfa.specs.Letters.{leads}
use Rattle.position_nfa.specs.Sets.{effect}
use Rattle.position_nfa.specs.Sound.{IsDue, AreDue}
use Rattle.position_nfa.specs.Step.{same, next_state, dead_state, start_state, state_if}
use Rattle.position_nfa.proofs.Rows.{one_row}
use Rattle.position_nfa.proofs.States.{same-equal, same-laws, dead-stays, effect-is_set, state_of-none}
use Rattle.subset_build.proofs.FamilyLaws.{Keeps, taken_keeps, numbered_keeps, numbered_if_keeps, explored_keeps, slice_get-None}

module _ (a : Alphabet) where
  -- the empty set has number 0
  pub first_at : (ks : List Pair) (n : ℕ) → ks ≡ explored a n → slice_get ks 0 ≡ Some (dead_state a)
  first_at ks n e =
      let first : slice_get (explored a 0) 0 ≡ Some (dead_state a) = numbered_keeps same same-laws same-equal (next_state a) (width a) (dead_state a) (start_state a) (dead_state a ∷ []) (start_state a) 0 (dead_state a) refl in
      subst (λ l. slice_get l 0 ≡ Some (dead_state a)) (sym e)
      (explored_keeps same same-laws same-equal (next_state a) (width a) (dead_state a) (start_state a) (dead-stays a) 0 n (omega arith) 0 (dead_state a) first)

  -- each state keeps its number where letters are taken
  pub kept_at : (ks keys : List Pair) (q p : Pair) (c i : ℕ) → keys ≡ taken a ks q c → slice_get ks i ≡ Some p → slice_get keys i ≡ Some p
  kept_at ks keys q p c i e h = subst (λ l. slice_get l i ≡ Some p) (sym e) (taken_keeps same same-laws same-equal (next_state a) (width a) (dead_state a) (start_state a) ks q c i p h)

  -- a letter that makes the empty set leads to state 0
  pub due_dead : (ks : List Pair) (q : Pair) (column to : ℕ) → slice_get ks 0 ≡ Some (dead_state a) → leads (time_classes a) (ratio_classes a) q.phase column ≡ Some to → has_none (effect a column q.set) ≡ true → IsDue ks (next_state a q column) 0
  due_dead ks q column to first l none =
      let s = effect a column q.set in
      let nothing : s ≡ set_of (count a) (λ i. false) = set_of-empty (count a) s (effect-is_set a column q.set) none in
      let next : next_state a q column ≡ Some (dead_state a) = ap (λ o. state_if a o column q) l ∙ ap Some (state_of-none a (record { phase = to; set = s }) nothing) in
      subst (λ o. IsDue ks o 0) (sym next) first

  due_kept : (old new : List Pair) (o : Option Pair) (n : ℕ) → Keeps old new → IsDue old o n → IsDue new o n
  due_kept old new None n keeps h = h
  due_kept old new (Some p) n keeps h = keeps n p h

  -- a state of a lesser number was there before
  was_there : (old new : List Pair) (i : ℕ) (p : Pair) → i < length old → Keeps old new → slice_get new i ≡ Some p → slice_get old i ≡ Some p
  was_there old new i p lt keeps h = by (slice_get old i) refl
    where
      by : (o : Option Pair) → slice_get old i ≡ o → slice_get old i ≡ Some p
      by None e = absurd (omega (arith, lt, slice_get-None old i e))
      by (Some x) e = e ∙ (sym (keeps i x e) ∙ h)

  row_before : (w q r c d : ℕ) → c < w → r * w + d < q * w + c → r ≤ q
  row_before w q r c d lt h = elim (cases_lt q r) [
    | inl after ↦ let more : w * (q + 1) ≤ w * r = mul-le-mul_left w (omega (arith, after)) in absurd (omega (arith, lt, h, more))
    | inr le ↦ le
  ]

  -- one entry more
  pub due_more : (old new : List Pair) (rows : List ℕ) (q : Pair) (number column n : ℕ) → Keeps old new → slice_get old number ≡ Some q → column < width a → length rows ≡ number * width a + column
      → AreDue a old rows → IsDue new (next_state a q column) n → AreDue a new (rows ++ n ∷ [])
  due_more old new rows q number column n keeps at within long before due r c p h lt inside = elim (cases_lt (r * width a + c) (length rows)) [
    | inl earlier ↦
        let le : r ≤ number = row_before (width a) number r column c within (omega (arith, earlier, long)) in
        let there : number < length old = slice_get_within old number q at in
        let old_at : slice_get old r ≡ Some p = was_there old new r p (omega (arith, le, there)) keeps h in
        let same_entry : get_or (rows ++ n ∷ []) (r * width a + c) 0 ≡ get_or rows (r * width a + c) 0 = get_or_append_left rows (n ∷ []) 0 (r * width a + c) earlier in
        subst (IsDue new (next_state a p c)) (sym same_entry) (due_kept old new (next_state a p c) (get_or rows (r * width a + c) 0) keeps (before r c p old_at lt earlier))
    | inr past ↦
        let size : length (rows ++ n ∷ []) ≡ length rows + 1 = length-append rows (n ∷ []) in
        let e : r * width a + c ≡ number * width a + column = omega (arith, past, size, inside, long) in
        let one = one_row (width a) r number c column lt within e in
        let same_state : Some p ≡ Some q = sym h ∙ (ap (slice_get new) one.0 ∙ keeps number q at) in
        let p_is : p ≡ q = cc in
        let last : get_or (rows ++ n ∷ []) (r * width a + c) 0 ≡ n = ap (λ i. get_or (rows ++ n ∷ []) i 0) (e ∙ (sym long ∙ plus_zero (length rows))) ∙ get_or-append-add rows (n ∷ []) 0 0 in
        subst (IsDue new (next_state a p c)) (sym last) (subst (λ i. IsDue new (next_state a p i) n) (sym one.1) (subst (λ (s : Pair). IsDue new (next_state a s column) n) (sym p_is) due))
  ]
    where
      plus_zero : (m : ℕ) → m ≡ m + 0
      plus_zero m = omega arith

  -- one letter more
  pub letter_more : (ks old new : List Pair) (q : Pair) (column : ℕ) → old ≡ taken a ks q column → new ≡ numbered_if a old (next_state a q column) → new ≡ taken a ks q (column + 1)
  letter_more ks old new q column before more = subst (λ n. new ≡ taken a ks q n) (sym (add-one column)) (more ∙ ap (λ l. numbered_if a l (next_state a q column)) before)

  pub letter_keeps : (old new : List Pair) (q : Pair) (column : ℕ) → new ≡ numbered_if a old (next_state a q column) → Keeps old new
  letter_keeps old new q column more i p h = subst (λ l. slice_get l i ≡ Some p) (sym more) (numbered_if_keeps same same-laws same-equal (next_state a) (width a) (dead_state a) (start_state a) old (next_state a q column) i p h)
