-- The classes between those of a limit's ends are exactly those of what the limit keeps.
use Rattle.std.proofs.Common.{◌≡◌, ◌↔◌, ◌⊎◌, inl, inr, ℕ, ◌+◌, ◌*◌, ◌<◌, ◌≤◌, List, arith, refl, subst, ap}
use Rattle.std.specs.Prelude.{All}
use Rattle.std.specs.List.{Contains}
use Rattle.gap_thresholds.specs.declared.cut.Cut.{Cut}
use Rattle.gap_thresholds.specs.Fractions.{count_below, count_equal, IsEqual}
use Rattle.gap_thresholds.specs.Classes.{time_class_of}
use Rattle.gap_thresholds.proofs.Counts.{counts-le-count_below, count_below-same, count_equal-same, one-le-count_equal}

-- bottoms are above 0
abbrev pub AreSome : List Cut → Type 0
AreSome cuts = All (λ c. 1 ≤ c.bottom) cuts

less_or_same : (m n : ℕ) → m ≤ n → (m < n) ⊎ (m ≡ n)
less_or_same m n h = grind arith

less_or_not : (m n : ℕ) → (m < n) ⊎ (n ≤ m)
less_or_not m n = grind arith

-- of fractions in order, the less one is of a lesser class where either is a cut
pub time-lt : (cuts : List Cut) (c : Cut) (t u : ℕ) → AreSome cuts → Contains cuts c → c.bottom ≡ 1 → c.top ≡ u → t < u → time_class_of cuts t < time_class_of cuts u
time-lt cuts c t u some in_list one at h =
    let most : count_below cuts t 1 + count_equal cuts t 1 ≤ count_below cuts u 1 = counts-le-count_below cuts t 1 u 1 some (omega (arith, h)) in
    let counted : 1 ≤ count_equal cuts u 1 = one-le-count_equal cuts c u 1 in_list (omega (arith, at, ap (λ b. u * b) one)) in
    omega (arith, most, counted)

-- a later time is of no lesser class
pub time-le : (cuts : List Cut) (t u : ℕ) → AreSome cuts → t ≤ u → time_class_of cuts t ≤ time_class_of cuts u
time-le cuts t u some h = by_order (less_or_same t u h)
  where
    by_order : (t < u) ⊎ (t ≡ u) → time_class_of cuts t ≤ time_class_of cuts u
    by_order (inl l) =
        let most : count_below cuts t 1 + count_equal cuts t 1 ≤ count_below cuts u 1 = counts-le-count_below cuts t 1 u 1 some (omega (arith, l)) in
        omega (arith, most)
    by_order (inr e) = subst (λ v. time_class_of cuts t ≤ time_class_of cuts v) e (omega arith)

-- the times of the classes between two cuts, the second of which is past the last time
pub time-between : (cuts : List Cut) (first past : Cut) (low high k t : ℕ) → AreSome cuts → Contains cuts first → first.bottom ≡ 1 → first.top ≡ low → Contains cuts past → past.bottom ≡ 1 → past.top ≡ high + 1
    → time_class_of cuts t ≡ k → ((time_class_of cuts low ≤ k) × (k ≤ time_class_of cuts high)) ↔ ((low ≤ t) × (t ≤ high))
time-between cuts first past low high k t some f f1 ft p p1 pt e = (λ h. (from_low (less_or_not t low) h.0, from_high (less_or_not high t) h.1), λ h. (omega (arith, e, time-le cuts low t some h.0), omega (arith, e, time-le cuts t high some h.1)))
  where
    from_low : (t < low) ⊎ (low ≤ t) → time_class_of cuts low ≤ k → low ≤ t
    from_low (inl l) h = absurd (omega (arith, h, e, time-lt cuts first t low some f f1 ft l))
    from_low (inr l) h = l

    from_high : (high < t) ⊎ (t ≤ high) → k ≤ time_class_of cuts high → t ≤ high
    from_high (inl l) h =
        let less : time_class_of cuts high < time_class_of cuts (high + 1) = time-lt cuts past high (high + 1) some p p1 pt (omega arith) in
        let more : time_class_of cuts (high + 1) ≤ time_class_of cuts t = time-le cuts (high + 1) t some (omega (arith, l)) in
        absurd (omega (arith, h, e, less, more))
    from_high (inr l) h = l

-- the class of a fraction among cuts
abbrev pub class : List Cut → ℕ → ℕ → ℕ
class cuts x xb = 2 * count_below cuts x xb + count_equal cuts x xb

-- a greater fraction is of a greater class where either is a cut
pub ratio-lt : (cuts : List Cut) (c : Cut) (x xb y yb : ℕ) → AreSome cuts → Contains cuts c → IsEqual c x xb ⊎ IsEqual c y yb → x * yb < y * xb → class cuts x xb < class cuts y yb
ratio-lt cuts c x xb y yb some in_list which h = by_cut which
  where
    most : count_below cuts x xb + count_equal cuts x xb ≤ count_below cuts y yb
    most = counts-le-count_below cuts x xb y yb some h

    by_cut : IsEqual c x xb ⊎ IsEqual c y yb → class cuts x xb < class cuts y yb
    by_cut (inl e) =
        let counted : 1 ≤ count_equal cuts x xb = one-le-count_equal cuts c x xb in_list e in
        omega (arith, most, counted)
    by_cut (inr e) =
        let counted : 1 ≤ count_equal cuts y yb = one-le-count_equal cuts c y yb in_list e in
        omega (arith, most, counted)

-- a fraction that is not less is of no lesser class
pub ratio-le : (cuts : List Cut) (x xb y yb : ℕ) → AreSome cuts → 1 ≤ xb → 1 ≤ yb → x * yb ≤ y * xb → class cuts x xb ≤ class cuts y yb
ratio-le cuts x xb y yb some some_x some_y h = by_order (less_or_same (x * yb) (y * xb) h)
  where
    by_order : (x * yb < y * xb) ⊎ (x * yb ≡ y * xb) → class cuts x xb ≤ class cuts y yb
    by_order (inl l) =
        let most : count_below cuts x xb + count_equal cuts x xb ≤ count_below cuts y yb = counts-le-count_below cuts x xb y yb some l in
        omega (arith, most)
    by_order (inr e) =
        let below : count_below cuts x xb ≡ count_below cuts y yb = count_below-same cuts x xb y yb some_x some_y e in
        let equal : count_equal cuts x xb ≡ count_equal cuts y yb = count_equal-same cuts x xb y yb some_x some_y e in
        omega (arith, below, equal)

-- the fractions of the classes between those of two cuts
pub ratio-between : (cuts : List Cut) (first last : Cut) (k x xb : ℕ) → AreSome cuts → Contains cuts first → 1 ≤ first.bottom → Contains cuts last → 1 ≤ last.bottom → 1 ≤ xb → class cuts x xb ≡ k
    → ((class cuts first.top first.bottom ≤ k) × (k ≤ class cuts last.top last.bottom)) ↔ ((first.top * xb ≤ x * first.bottom) × (x * last.bottom ≤ last.top * xb))
ratio-between cuts first last k x xb some f f1 l l1 x1 e = (
  λ h. (from_low (less_or_not (x * first.bottom) (first.top * xb)) h.0, from_high (less_or_not (last.top * xb) (x * last.bottom)) h.1),
  λ h. (omega (arith, e, ratio-le cuts first.top first.bottom x xb some f1 x1 h.0), omega (arith, e, ratio-le cuts x xb last.top last.bottom some x1 l1 h.1)),
)
  where
    from_low : (x * first.bottom < first.top * xb) ⊎ (first.top * xb ≤ x * first.bottom) → class cuts first.top first.bottom ≤ k → first.top * xb ≤ x * first.bottom
    from_low (inl less) h = absurd (omega (arith, h, e, ratio-lt cuts first x xb first.top first.bottom some f (inr refl) less))
    from_low (inr least) h = least

    from_high : (last.top * xb < x * last.bottom) ⊎ (x * last.bottom ≤ last.top * xb) → k ≤ class cuts last.top last.bottom → x * last.bottom ≤ last.top * xb
    from_high (inl less) h = absurd (omega (arith, h, e, ratio-lt cuts last last.top last.bottom x xb some l (inl refl) less))
    from_high (inr most) h = most
