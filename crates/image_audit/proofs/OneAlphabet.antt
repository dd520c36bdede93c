-- A wheel has one list of places and one of each kind of cuts, so that a table is sound over all of its alphabets or over none.
use Rattle.std.proofs.Common.{◌≡◌, ℕ, zero, suc, ◌+◌, ◌-◌, ◌*◌, ◌<◌, ◌≤◌, true, false, List, [], ◌∷◌, length, Option, Some, None, get_or, Contains, refl, sym, subst, ◌∙◌, arith, if◌then◌else◌, ◌&&◌, nat_lt}
use Rattle.wheel_types.specs.declared.place.Place.{Place}
use Rattle.wheel_types.specs.declared.parts.WheelParts.{WheelParts}
use Rattle.gap_thresholds.specs.declared.cut.Cut.{Cut}
use Rattle.gap_thresholds.specs.Classes.{wheel_of, times_of, ratios_of, time_class_of, ratio_class_of}
use Rattle.gap_thresholds.specs.Fractions.{Ascend}
use Rattle.cam_ranges.specs.Places.{IsLess}
use Rattle.cam_ranges.proofs.FewPlaces.{not_both_before}
use Rattle.motion_bounds.specs.Times.{least_of, greatest_of}
use Rattle.image_layout.proofs.Images.{below_then}
use Rattle.place_words.specs.Words.{has, set_of}
use Rattle.position_nfa.specs.declared.pair.Pair.{Pair}
use Rattle.position_nfa.specs.Alphabets.{Alphabet, IsAlphabetOf, nth, width, wheel}
use Rattle.position_nfa.specs.Letters.{leads}
use Rattle.position_nfa.specs.Sets.{next_gap, last_gap, is_from, walk_end, is_end, any_below}
use Rattle.position_nfa.specs.Step.{next_state, state_if, state_of, dead_state, start_state}
use Rattle.position_nfa.specs.Sound.{Says, SetSays}

module _ {X : Type 0} (Less : X → X → Type 0) (asym : (x y : X) → Less x y → Less y x → ⊥) where
  abbrev Rise : List X → Type 0
  Rise xs = (i j : ℕ) (d : X) → i < j → j < length xs → Less (get_or xs i d) (get_or xs j d)

  abbrev Within : List X → List X → Type 0
  Within xs ys = (x : X) → Contains xs x → Contains ys x

  tail_rises : (x : X) (xs : List X) → Rise (x ∷ xs) → Rise xs
  tail_rises x xs rise i j d lt inside = rise (suc i) (suc j) d (omega (arith, lt)) (omega (arith, inside))

  -- the least of a list is the least of another with the same elements
  least_same : (x y : X) (xs ys : List X) → Rise (x ∷ xs) → Rise (y ∷ ys) → Contains (y ∷ ys) x → Contains (x ∷ xs) y → x ≡ y
  least_same x y xs ys rx ry (zero, lt, e) h = sym e
  least_same x y xs ys rx ry (suc k, lt, e) (zero, there, g) = g
  least_same x y xs ys rx ry (suc k, lt, e) (suc m, there, g) =
      absurd (asym x y (subst (Less x) g (rx 0 (suc m) y (omega arith) there)) (subst (Less y) e (ry 0 (suc k) x (omega arith) lt)))

  tail_within : (x y : X) (xs ys : List X) → Rise (x ∷ xs) → x ≡ y → Within (x ∷ xs) (y ∷ ys) → Within xs ys
  tail_within x y xs ys rx e within z (i, lt, at) = by (within z (suc i, omega (arith, lt), at))
    where
      less : Less x z
      less = subst (Less x) at (rx 0 (suc i) z (omega arith) (omega (arith, lt)))

      by : Contains (y ∷ ys) z → Contains ys z
      by (zero, lt, g) = absurd (let same : z ≡ x = sym g ∙ sym e in asym z z (subst (λ w. Less w z) (sym same) less) (subst (λ w. Less w z) (sym same) less))
      by (suc k, lt, g) = (k, omega (arith, lt), g)

  pub same_rising : (xs ys : List X) → Rise xs → Rise ys → Within xs ys → Within ys xs → xs ≡ ys
  same_rising [] [] rx ry there back = refl
  same_rising [] (y ∷ ys) rx ry there back = absurd (let h = back y (0, omega arith, refl) in omega (arith, h.1))
  same_rising (x ∷ xs) [] rx ry there back = absurd (let h = there x (0, omega arith, refl) in omega (arith, h.1))
  same_rising (x ∷ xs) (y ∷ ys) rx ry there back =
      let first : x ≡ y = least_same x y xs ys rx ry (there x (0, omega arith, refl)) (back y (0, omega arith, refl)) in
      let rest : xs ≡ ys = same_rising xs ys (tail_rises x xs rx) (tail_rises y ys ry) (tail_within x y xs ys rx first there) (tail_within y x ys xs ry (sym first) back) in
      λ i. first i ∷ rest i

abbrev Lower : Cut → Cut → Type 0
Lower c d = c.top * d.bottom < d.top * c.bottom

not_both_lower : (c d : Cut) → Lower c d → Lower d c → ⊥
not_both_lower c d h g = omega (arith, h, g)

-- each of the cuts is below all that come after it
cuts_rise : (cuts : List Cut) → Ascend cuts → (i k : ℕ) (d : Cut) → i + k + 1 < length cuts → Lower (get_or cuts i d) (get_or cuts (i + k + 1) d)
cuts_rise cuts rise i zero d inside =
    let e : i + 1 ≡ i + 0 + 1 = omega arith in
    subst (λ n. Lower (get_or cuts i d) (get_or cuts n d)) e (rise i d (omega (arith, inside)))
cuts_rise cuts rise i (suc k) d inside =
    let before = cuts_rise cuts rise i k d (omega (arith, inside)) in
    let next : Lower (get_or cuts (i + k + 1) d) (get_or cuts (i + k + 1 + 1) d) = rise (i + k + 1) d (omega (arith, inside)) in
    let e : i + k + 1 + 1 ≡ i + suc k + 1 = omega arith in
    subst (λ n. Lower (get_or cuts i d) (get_or cuts n d)) e
    (lower_then (get_or cuts i d) (get_or cuts (i + k + 1) d) (get_or cuts (i + k + 1 + 1) d) before next)
  where
    lower_then : (x y z : Cut) → Lower x y → Lower y z → Lower x z
    lower_then x y z h g = below_then x.top x.bottom y.top y.bottom z.top z.bottom (some x.bottom h) (omega (arith, h)) g
      where
        some : (n : ℕ) → x.top * y.bottom < y.top * n → 1 ≤ n
        some zero h = absurd (omega (arith, h))
        some (suc n) h = omega arith

-- the alphabets have the same lists
pub record AreOne (a c : Alphabet) : Type 0 where
  pub places : a.places ≡ c.places
  pub wheel : wheel_of a.cuts ≡ wheel_of c.cuts
  pub times : times_of a.cuts ≡ times_of c.cuts
  pub ratios : ratios_of a.cuts ≡ ratios_of c.cuts

module _ (w : WheelParts) (a c : Alphabet) (ia : IsAlphabetOf w a) (ic : IsAlphabetOf w c) where
  rises : (cuts : List Cut) → Ascend cuts → Rise Lower not_both_lower cuts
  rises cuts ascend i j d lt inside =
      let e : i + (j - i - 1) + 1 ≡ j = omega (arith, lt) in
      subst (λ n. Lower (get_or cuts i d) (get_or cuts n d)) e (cuts_rise cuts ascend i (j - i - 1) d (omega (arith, lt, inside)))

  pub alphabets_one : AreOne a c
  alphabets_one = record {
    places = same_rising IsLess not_both_before a.places c.places (λ i j d. ia.ascend i j d) (λ i j d. ic.ascend i j d) (λ p h. (ic.places p).1 ((ia.places p).0 h)) (λ p h. (ia.places p).1 ((ic.places p).0 h));
    wheel = ia.cuts.wheel ∙ sym ic.cuts.wheel;
    times = same_rising Lower not_both_lower (times_of a.cuts) (times_of c.cuts) (rises (times_of a.cuts) ia.cuts.times_ascend) (rises (times_of c.cuts) ic.cuts.times_ascend)
        (λ k h. (ic.cuts.times k).1 ((ia.cuts.times k).0 h)) (λ k h. (ia.cuts.times k).1 ((ic.cuts.times k).0 h));
    ratios = same_rising Lower not_both_lower (ratios_of a.cuts) (ratios_of c.cuts) (rises (ratios_of a.cuts) ia.cuts.ratios_ascend) (rises (ratios_of c.cuts) ic.cuts.ratios_ascend)
        (λ k h. (ic.cuts.ratios k).1 ((ia.cuts.ratios k).0 h)) (λ k h. (ia.cuts.ratios k).1 ((ic.cuts.ratios k).0 h));
  }

-- where the letters lead, by the lists alone
abbrev effect_over : List Place → WheelParts → List Cut → List Cut → ℕ → List ℕ → List ℕ
effect_over ps w ts rs column set =
    if nat_lt column (length ts + 1)
    then set_of (length ps) (λ i. has set i && (let s = next_gap w (nth ps i) in is_from column (time_class_of ts (least_of w s)) (time_class_of ts (greatest_of w s))))
    else if nat_lt column (length ts + 1 + (2 * length rs + 1))
    then set_of (length ps) (λ i. has set i && (let s0 = last_gap w (nth ps i) in let s1 = next_gap w (nth ps i) in is_from (column - (length ts + 1)) (ratio_class_of rs (s0 * w.rn) (s1 * w.rd)) (ratio_class_of rs (s0 * w.rd) (s1 * w.rn))))
    else set_of (length ps) (λ k. any_below (length ps) (λ i. has set i && is_end (walk_end w (column - (length ts + 1 + (2 * length rs + 1)) + 1) (nth ps i)) (nth ps k)))

abbrev state_over : List Place → WheelParts → List Cut → List Cut → Option ℕ → ℕ → Pair → Option Pair
state_over ps w ts rs None column p = None
state_over ps w ts rs (Some to) column p = Some (state_of (record { phase = to; set = effect_over ps w ts rs column p.set }))

state_is : (a : Alphabet) (o : Option ℕ) (column : ℕ) (p : Pair) → state_if a o column p ≡ state_over a.places (wheel a) (times_of a.cuts) (ratios_of a.cuts) o column p
state_is a None column p = refl
state_is a (Some to) column p = refl

module _ (a c : Alphabet) (one : AreOne a c) where
  pub next_one : (p : Pair) (column : ℕ) → next_state a p column ≡ next_state c p column
  next_one p column =
      let over : List Place → WheelParts → List Cut → List Cut → Option Pair = λ ps w ts rs. state_over ps w ts rs (leads (length ts + 1) (2 * length rs + 1) p.phase column) column p in
      state_is a (leads (length (times_of a.cuts) + 1) (2 * length (ratios_of a.cuts) + 1) p.phase column) column p
      ∙ ((λ i. over (one.places i) (one.wheel i) (one.times i) (one.ratios i))
      ∙ sym (state_is c (leads (length (times_of c.cuts) + 1) (2 * length (ratios_of c.cuts) + 1) p.phase column) column p))

  pub width_one : width a ≡ width c
  width_one = λ i. length (one.times i) + 1 + (2 * length (one.ratios i) + 1) + 26

  pub dead_one : dead_state a ≡ dead_state c
  dead_one = λ i. record { phase = 0; set = set_of (length (one.places i)) (λ k. false) }

  pub start_one : start_state a ≡ start_state c
  start_one = λ i. record { phase = 0; set = set_of (length (one.places i)) (λ k. true) }

  pub says_same : (set : List ℕ) (s : Says) → SetSays a set s → SetSays c set s
  says_same set s h = subst (λ (ps : List Place). SetSays (record { places = ps; cuts = a.cuts }) set s) one.places h
