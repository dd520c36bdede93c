-- What an image asks of the states of a table: phases, kinds and sets.
use Rattle.std.proofs.Common.{◌≡◌, ◌≢◌, inl, inr, ℕ, ◌<◌, ◌≤◌, Bool, true, false, List, [], ◌∷◌, length, Option, Some, None, get_or, refl, sym, ap, subst, ◌∙◌, arith, if◌then◌else◌}
use Rattle.std.proofs.lemmas.Bool.{cases_eq}
use Rattle.std.proofs.lemmas.Bool.Decides.{nat_tests}
use Rattle.std.proofs.lemmas.List.{get_or_default}
use Rattle.std.proofs.lemmas.List.Elements.{Contains-get_or}
use Rattle.std.specs.Prelude.{pos}
use Rattle.wheel_types.specs.declared.channel.Channel.TheVariants.{Crank}
use Rattle.wheel_types.specs.declared.place.Place.{Place}
use Rattle.wheel_types.specs.declared.parts.WheelParts.{WheelParts}
use Rattle.wheel_types.specs.Edges.{edge_count}
use Rattle.cam_ranges.specs.Places.{IsPlace}
use Rattle.place_words.specs.Words.{has_none, IsSet, set_of}
use Rattle.place_words.proofs.SetOf.{set_of-empty, fits_all, is_set}
use Rattle.place_words.proofs.WordLaws.{has_none_tests}
use Rattle.position_nfa.specs.declared.pair.Pair.{Pair}
use Rattle.position_nfa.specs.Alphabets.{Alphabet, IsAlphabetOf, count, place, time_classes, ratio_classes}
use Rattle.position_nfa.specs.Families.{IsReached}
use Rattle.position_nfa.specs.Letters.{leads}
use Rattle.position_nfa.specs.Sets.{effect}
use Rattle.position_nfa.specs.Sound.{Nothing, At, Open, SetSays}
use Rattle.position_nfa.specs.Step.{dead_state, start_state, state_of, state_if, phase_of}
use Rattle.position_nfa.proofs.States.{effect-is_set, state_of-none}

leads_low : (t r phase column to : ℕ) → leads t r phase column ≡ Some to → to ≤ 5
leads_low t r phase column to h = grind (arith, nat_tests, h)

module _ (a : Alphabet) where
  phase_low : (to : ℕ) (b : Bool) → to ≤ 5 → (if b then 0 else to) ≤ 5
  phase_low to true h = omega arith
  phase_low to false h = h

  -- what is known of a state by the last letter that led to it
  by_letter : (q p : Pair) (column : ℕ) (o : Option ℕ) → leads (time_classes a) (ratio_classes a) q.phase column ≡ o → state_if a o column q ≡ Some p → (p.phase ≤ 5) × (has_none p.set ≡ true → p ≡ dead_state a)
  by_letter q p column None e h = absurd (cc)
  by_letter q p column (Some to) e h =
      let s : List ℕ = effect a column q.set in
      let raw : Pair = record { phase = to; set = s } in
      let is : state_of raw ≡ p = cc in
      let low : phase_of to s ≤ 5 = phase_low to (has_none s) (leads_low (time_classes a) (ratio_classes a) q.phase column to e) in (
        subst (λ (x : Pair). x.phase ≤ 5) is low,
        λ none.
            let own : has_none s ≡ true = subst (λ (x : Pair). has_none x.set ≡ true) (sym is) none in
            let empty : s ≡ set_of (count a) (λ i. false) = set_of-empty (count a) s (effect-is_set a column q.set) own in
            sym is ∙ state_of-none a raw empty,
      )

  pub reached_low : (p : Pair) → IsReached a p → (p.phase ≤ 5) × (has_none p.set ≡ true → p ≡ dead_state a)
  reached_low p ([], e) = (subst (λ (x : Pair). x.phase ≤ 5) (sym e) (omega arith), λ none. start_none (subst (λ (x : Pair). has_none x.set ≡ true) e none))
    where
      start_none : has_none (start_state a).set ≡ true → p ≡ dead_state a
      start_none none =
          let empty : (start_state a).set ≡ set_of (count a) (λ i. false) = set_of-empty (count a) (start_state a).set (is_set (count a) (λ i. true)) none in
          e ∙ (λ j. record { phase = 0; set = empty j })
  reached_low p (c ∷ word, (q, r, lt, h)) = by_letter q p c (leads (time_classes a) (ratio_classes a) q.phase c) refl h

  -- a set that says nothing is empty
  pub says_nothing : (set : List ℕ) → IsSet (count a) set → SetSays a set Nothing → has_none set ≡ true
  says_nothing set is none = (has_none_tests set (λ k. fits_all set is.fits k)).1 (λ k h. none k (is.inside k h, h))

  module _ (w : WheelParts) (is : IsAlphabetOf w a) where
    place_is : (i : ℕ) → i < count a → IsPlace w (place a i)
    place_is i lt = (is.places (place a i)).0 (Contains-get_or a.places i (record { j = 0; n1 = pos 0; n2 = pos 0 }) lt)

    -- a position that a set says is a crank edge
    pub says_edge : (set : List ℕ) (j : ℕ) → SetSays a set (At j) → j < edge_count w Crank
    says_edge set j says =
        let i = says.0.0 in
        let same : (place a i).j ≡ j = says.1 i says.0.1 in
        let edge : (place a i).j < edge_count w Crank = (place_is i says.0.1.0).edge in
        omega (arith, same, edge)

    -- two places that it says are of different positions, the lesser first
    pub says_places : (set : List ℕ) (e f : ℕ) → SetSays a set (Open e f) → (e < f) × ((f < length a.places) × ((d : Place) → (get_or a.places e d).j ≡ (get_or a.places f d).j → ⊥))
    says_places set e f says =
        let other = says.1.holds in
        let le : e ≤ f = says.0.least f other.0 in
        let differ : (place a f).j ≢ (place a e).j = other.1 in
        let member : e < count a = says.0.holds.0 in
        let apart : e ≢ f = λ same. differ (ap (λ n. (place a n).j) (sym same)) in (
          below e f le apart,
          (
            other.0.0,
            λ d same.
                let d0 : Place = record { j = 0; n1 = pos 0; n2 = pos 0 } in
                differ (ap (λ (x : Place). x.j) (sym (get_or_default a.places f d d0 other.0.0)) ∙ (sym same ∙ ap (λ (x : Place). x.j) (get_or_default a.places e d d0 member))),
          ),
        )
      where
        below : (e f : ℕ) → e ≤ f → e ≢ f → e < f
        below e f le apart = elim (cases_eq e f) [ inl same ↦ absurd (apart same) | inr other ↦ omega (arith, le, other) ]
