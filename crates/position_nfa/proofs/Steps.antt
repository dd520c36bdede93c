-- The letters of an instant are its legal steps: the law.
use Rattle.std.proofs.Common.{◌≡◌, ◌↔◌, ℕ, ◌+◌, ◌*◌, ◌/◌, ◌%◌, ◌<◌, ◌≤◌, List, [], ◌∷◌, ℤ, pos, refl, sym, ap, subst, ◌∙◌, arith}
use Rattle.std.proofs.lemmas.List.Elements.{Contains-get_or}
use Rattle.std.proofs.lemmas.List.{get_or_default}
use Rattle.std.specs.Prelude.{Contains, Option, Some, None}
use Rattle.wheel_types.specs.declared.channel.Pol.{Pol}
use Rattle.wheel_types.specs.declared.channel.Pol.TheVariants.{Rise, Fall}
use Rattle.wheel_types.specs.declared.place.Place.{Place}
use Rattle.wheel_types.specs.declared.instant.Instant.{Instant}
use Rattle.wheel_types.specs.declared.parts.WheelParts.{WheelParts}
use Rattle.wheel_types.specs.Shapes.{edge_of, digit_of, shape_number}
use Rattle.wheel_types.specs.Motions.{events_of, orders}
use Rattle.wheel_types.specs.Steps.{IsLegalStep, crank_times, KeepsGapsIf}
use Rattle.cam_ranges.specs.Places.{IsPlace}
use Rattle.legal_steps.proofs.TimedSteps.{legal_is_timed, timed_step_place}
use Rattle.place_words.specs.Words.{IsSet}
use Rattle.place_words.proofs.SetOf.{is_set}
use Rattle.position_nfa.specs.Alphabets.{Alphabet, IsAlphabetOf, wheel, count, place}
use Rattle.legal_steps.specs.TimedSteps.{end_of}
use Rattle.position_nfa.specs.Sets.{walk_end}
use Rattle.position_nfa.specs.Laws.{HasPlace, gaps_kept_if, instant_set, LettersAreSteps}
use Rattle.legal_steps.proofs.Walked.{end_whole, end_sound, no_limits}
use Rattle.position_nfa.proofs.WalkTables.{shape_end}
use Rattle.position_nfa.proofs.Legal.{by_gaps_if, by_shape}
use Rattle.position_nfa.proofs.RisingGaps.{AreApart, crank_times_apart}

edge_digit : (o : Option Pol) → o ≡ edge_of (digit_of o)
edge_digit None = refl
edge_digit (Some Rise) = refl
edge_digit (Some Fall) = refl

few_digits : (o : Option Pol) → digit_of o ≤ 2
few_digits None = omega arith
few_digits (Some Rise) = omega arith
few_digits (Some Fall) = omega arith

digits : (x y z : ℕ) → x ≤ 2 → y ≤ 2 → z ≤ 2 → (x ≡ (x + 3 * y + 9 * z) % 3) × (y ≡ (x + 3 * y + 9 * z) / 3 % 3) × (z ≡ (x + 3 * y + 9 * z) / 9)
digits x y z h k l = (omega (arith, h), omega (arith, h, k), omega (arith, h, k))

-- the walk of an instant's shape is one of its edges
pub shape_walk : (w : WheelParts) (i : Instant) (p : Place) → end_of w (orders (events_of i)) p ≡ walk_end w (shape_number i.crank i.cam1 i.cam2) p
shape_walk w i p =
    let d = digits (digit_of i.crank) (digit_of i.cam1) (digit_of i.cam2) (few_digits i.crank) (few_digits i.cam1) (few_digits i.cam2) in
    shape_end w i (shape_number i.crank i.cam1 i.cam2) p (edge_digit i.crank ∙ ap edge_of d.0) (edge_digit i.cam1 ∙ ap edge_of d.1) (edge_digit i.cam2 ∙ ap edge_of d.2)

-- where the gaps keep the limits the end of the walk is the legal step
legal_by : (w : WheelParts) (past : List Instant) (i : Instant) (p q : Place) → KeepsGapsIf i.crank w (pos (p.j + 1)) i.time (crank_times past) → end_of w (orders (events_of i)) p ≡ Some q → IsLegalStep w past p i q
legal_by w past i p q gaps h =
    let s = end_sound w (orders (events_of i)) p q h in
    (s.1.0, record { order = s.0; is_order = s.1.1.0; walks = s.1.1.1.0; gaps = gaps }, s.1.1.1.1)

end_by : (w : WheelParts) (past : List Instant) (i : Instant) (p q : Place) → IsLegalStep w past p i q → end_of w (orders (events_of i)) p ≡ Some q
end_by w past i p q h = end_whole w i p h.1.order h.0 h.1.is_order h.1.walks ∙ ap Some (sym h.2)

end_place : (w : WheelParts) (i : Instant) (p q : Place) → IsPlace w p → end_of w (orders (events_of i)) p ≡ Some q → IsPlace w q
end_place w i p q is h = timed_step_place w [] p i q is (legal_is_timed w [] [] p i q is refl (legal_by w [] i p q (no_limits i.crank w (pos (p.j + 1)) i.time) h))

gaps_set : (a : Alphabet) (o : Option Pol) (t : ℤ) (ts : List ℤ) (set : List ℕ) → IsSet (count a) set → IsSet (count a) (gaps_kept_if o a t ts set)
gaps_set a None t ts set is = is
gaps_set a (Some p) t [] set is = is
gaps_set a (Some p) t (u ∷ []) set is = is_set (count a) _
gaps_set a (Some p) t (u ∷ v ∷ ts) set is = is_set (count a) _

own : (a : Alphabet) (past : List Instant) (i : Instant) (set : List ℕ) → IsAlphabetOf (wheel a) a → IsSet (count a) set → AreApart i.time (crank_times past) → (q : Place) → HasPlace a (instant_set a past i set) q ↔ ((p : Place) × (HasPlace a set p × IsLegalStep (wheel a) past p i q))
own a past i set is set_is rising q = (
  λ h.
      let r = law.0 h in
      let k = (gaps r.0).0 r.1.0 in
      (r.0, (k.0, legal_by (wheel a) past i r.0 q k.1 (shape_walk (wheel a) i r.0 ∙ r.1.1))),
  λ h.
      let k = (gaps h.0).1 (h.1.0, h.1.1.1.gaps) in
      law.1 (h.0, (k, sym (shape_walk (wheel a) i h.0) ∙ end_by (wheel a) past i h.0 q h.1.1)),
)
  where
    gaps : (p : Place) → HasPlace a (gaps_kept_if i.crank a i.time (crank_times past) set) p ↔ (HasPlace a set p × KeepsGapsIf i.crank (wheel a) (pos (p.j + 1)) i.time (crank_times past))
    gaps p = by_gaps_if a is.cuts i.crank i.time (crank_times past) set p rising

    found : (p r : Place) → HasPlace a (gaps_kept_if i.crank a i.time (crank_times past) set) p → walk_end (wheel a) (shape_number i.crank i.cam1 i.cam2) p ≡ Some r → (k : ℕ) × ((k < count a) × (place a k ≡ r))
    found p r h e =
        let there : IsPlace (wheel a) (place a h.0) = (is.places (place a h.0)).0 (Contains-get_or a.places h.0 (record { j = 0; n1 = pos 0; n2 = pos 0 }) h.1.0) in
        let is_p : IsPlace (wheel a) p = subst (IsPlace (wheel a)) h.1.1.1 there in
        let c : Contains a.places r = (is.places r).1 (end_place (wheel a) i p r is_p (shape_walk (wheel a) i p ∙ e)) in
        (c.0, (c.1, get_or_default a.places c.0 (record { j = 0; n1 = pos 0; n2 = pos 0 }) r c.1 ∙ c.2))

    law : HasPlace a (instant_set a past i set) q ↔ ((p : Place) × (HasPlace a (gaps_kept_if i.crank a i.time (crank_times past) set) p × (walk_end (wheel a) (shape_number i.crank i.cam1 i.cam2) p ≡ Some q)))
    law = by_shape a is.cuts (shape_number i.crank i.cam1 i.cam2) (gaps_kept_if i.crank a i.time (crank_times past) set) q (gaps_set a i.crank i.time (crank_times past) set set_is) found

pub letters_are_steps : LettersAreSteps
letters_are_steps w a past i set is set_is rising q =
    subst (λ v. HasPlace a (instant_set a past i set) q ↔ ((p : Place) × (HasPlace a set p × IsLegalStep v past p i q))) is.cuts.wheel
    (own a past i set (subst (λ v. IsAlphabetOf v a) (sym is.cuts.wheel) is) set_is (crank_times_apart i past rising) q)
