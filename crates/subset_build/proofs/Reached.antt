-- Some word of letters reaches the empty set, so the family is what words reach.
use Rattle.std.proofs.Common.{◌≡◌, ℕ, ◌+◌, ◌-◌, ◌<◌, ◌≤◌, inl, inr, Bool, true, false, List, [], ◌∷◌, length, Some, refl, sym, ap, subst, ◌∙◌, arith, if◌then◌else◌, nat_lt}
use Rattle.std.proofs.lemmas.Bool.{lt-ltb, le-ltb}
use Rattle.std.proofs.lemmas.Map.Made.{length-le_from_is_member}
use Rattle.std.proofs.lemmas.Map.Views.{list_any-from_Contains, Contains-from_any}
use Rattle.wheel_types.specs.declared.parts.WheelParts.{WheelParts}
use Rattle.place_words.specs.Words.{has_none}
use Rattle.place_words.proofs.SetOf.{set_of-empty}
use Rattle.position_nfa.specs.declared.pair.Pair.{Pair}
use Rattle.position_nfa.specs.Alphabets.{Alphabet, IsAlphabetOf, width, count, time_classes, ratio_classes}
use Rattle.position_nfa.specs.Letters.{leads}
use Rattle.position_nfa.specs.Sets.{effect, time_kept, no_places, all_places}
use Rattle.position_nfa.specs.Step.{same, next_state, dead_state, start_state, state_of, state_if, phase_of}
use Rattle.position_nfa.proofs.States.{effect-is_set, state_of-none, same-equal, same-laws}
use Rattle.position_nfa.proofs.Dead.{keeps_none}
use Rattle.position_nfa.specs.Family as family
use Rattle.position_nfa.specs.Families.{IsLeastFamily, IsReached}
use Rattle.subset_build.specs.Families.{IsFamily, IsPastLimit, HasMore}

leads_shape : (t r : ℕ) → leads t r 0 (t + r) ≡ Some 1
leads_shape t r =
    let not_time : nat_lt (t + r) t ≡ false = le-ltb (t + r) t (omega arith) in
    let not_ratio : nat_lt (t + r) (t + r) ≡ false = le-ltb (t + r) (t + r) (omega arith) in
    let first : t + r - (t + r) + 1 ≡ 1 = omega arith in
    rw (not_time, not_ratio, first) refl

leads_time : (t r : ℕ) → 0 < t → leads t r 1 0 ≡ Some 3
leads_time t r some = rw (lt-ltb 0 t some) refl

module _ (a : Alphabet) where
  abbrev Reach : List ℕ → Pair → Type 0
  Reach word p = family.Reaches same (next_state a) (width a) (dead_state a) (start_state a) word p

  some_times : 0 < time_classes a
  some_times = omega arith

  -- a shape with a crank edge, from the start
  abbrev column : ℕ
  column = time_classes a + ratio_classes a

  abbrev after : List ℕ
  after = effect a column (all_places a)

  first_letter : next_state a (start_state a) column ≡ Some (state_of (record { phase = 1; set = after }))
  first_letter = ap (λ o. state_if a o column (start_state a)) (leads_shape (time_classes a) (ratio_classes a))

  effect_first : (set : List ℕ) → effect a 0 set ≡ time_kept a 0 set
  effect_first set = rw (lt-ltb 0 (time_classes a) some_times) refl

  full : (phase : ℕ) (set : List ℕ) → has_none set ≡ false → state_of (record { phase = phase; set = set }) ≡ record { phase = phase; set = set }
  full phase set e = let f : phase_of phase set ≡ phase = ap (λ b. if b then 0 else phase) e in λ i. record { phase = f i; set = set }

  second_letter : (w : WheelParts) (set : List ℕ) → IsAlphabetOf w a → next_state a (record { phase = 1; set = set }) 0 ≡ Some (dead_state a)
  second_letter w set is =
      let nothing : effect a 0 set ≡ no_places a = effect_first set ∙ keeps_none w a set is in
      ap (λ o. state_if a o 0 (record { phase = 1; set = set })) (leads_time (time_classes a) (ratio_classes a) some_times)
      ∙ ap Some (state_of-none a (record { phase = 3; set = effect a 0 set }) nothing)

  within : column < width a
  within = omega arith

  pub dead_reached : (w : WheelParts) → IsAlphabetOf w a → IsReached a (dead_state a)
  dead_reached w is = by (has_none after) refl
    where
      by : (b : Bool) → has_none after ≡ b → IsReached a (dead_state a)
      by true e =
          let nothing : after ≡ no_places a = set_of-empty (count a) after (effect-is_set a column (all_places a)) e in
          (column ∷ [], (start_state a, refl, within, first_letter ∙ ap Some (state_of-none a (record { phase = 1; set = after }) nothing)))
      by false e =
          let one : Reach (column ∷ []) (record { phase = 1; set = after }) = (start_state a, refl, within, first_letter ∙ ap Some (full 1 after e)) in
          (0 ∷ column ∷ [], (record { phase = 1; set = after }, one, omega arith, second_letter w after is))

  pub least_family : (w : WheelParts) (states : List Pair) → IsAlphabetOf w a → IsFamily a states → IsLeastFamily a states
  least_family w states is fam = record {
    once = fam.once;
    sound = λ p h. elim (fam.sound p h) [
      | inl e ↦ subst (IsReached a) (sym e) (dead_reached w is)
      | inr word ↦ word
    ];
    whole = λ p word. fam.whole p (inr word);
  }

  pub has_more : (w : WheelParts) (limit : ℕ) → IsAlphabetOf w a → IsPastLimit a limit → HasMore a limit
  has_more w limit is past = record {
    states = past.0;
    once = past.1.once;
    sound = λ p h. elim (past.1.sound p h) [
      | inl e ↦ subst (IsReached a) (sym e) (dead_reached w is)
      | inr word ↦ word
    ];
    many = past.2;
  }

  -- where the family is within the limit no more are reached
  pub not_more : (limit : ℕ) (states : List Pair) → IsLeastFamily a states → length states ≤ limit → HasMore a limit → ⊥
  not_more limit states fam le more =
      let fewer : length more.states ≤ length states = length-le_from_is_member same-laws more.states states more.once (λ q h. list_any-from_Contains same-laws q states (fam.whole q (more.sound q (Contains-from_any same-equal q more.states h)))) in
      omega (arith, more.many)
