-- The gaps of a wheel by the numbers of its crank edges.
use Rattle.std.proofs.Common.{◌≡◌, ℕ, ◌+◌, ◌<◌, ℤ, pos, ◌+ℤ◌, ◌*ℤ◌, sym, ◌∙◌, ap, arith}
use Rattle.std.proofs.lemmas.Int.{ints}
use Rattle.wheel_types.specs.declared.channel.Channel.TheVariants.{Crank}
use Rattle.wheel_types.specs.declared.parts.WheelParts.{WheelParts}
use Rattle.wheel_types.specs.Edges.{edge_count, number_of, cycle_of}
use Rattle.wheel_types.specs.Motions.{slots_between}
use Rattle.wheel_types.proofs.Unrolled.{carried, number_below}
use Rattle.wheel_types.proofs.Shifted.{later, slots_between-later}
use Rattle.gap_thresholds.specs.Gaps.{IsGap, AreGaps}

-- so many slots are from edge j to the next
abbrev pub gap : WheelParts → ℕ → ℕ
gap w j = slots_between w (pos j) (pos (j + 1))

-- and from that one to the one after
abbrev pub gap_after : WheelParts → ℕ → ℕ
gap_after w j = slots_between w (pos (j + 1)) (pos (j + 2))

next : (j : ℕ) → pos j +ℤ pos 1 ≡ pos (j + 1)
next j = omega (arith, ints)

next_but_one : (j : ℕ) → pos j +ℤ pos 2 ≡ pos (j + 2)
next_but_one j = omega (arith, ints)

-- so edge j makes a gap, and two that follow each other
pub is_gap : (w : WheelParts) (j : ℕ) → IsGap w (gap w j)
is_gap w j = (pos j, ap (slots_between w (pos j)) (sym (next j)))

pub are_gaps : (w : WheelParts) (j : ℕ) → AreGaps w (gap w j) (gap_after w j)
are_gaps w j = (
  pos j,
  (
    ap (slots_between w (pos j)) (sym (next j)),
    ap (λ z. slots_between w z (pos (j + 2))) (sym (next j)) ∙ ap (slots_between w (pos j +ℤ pos 1)) (sym (next_but_one j)),
  ),
)

regrouped : (m z : ℤ) (r : ℕ) → m ≡ z +ℤ pos r → (m ≡ pos r +ℤ z) × (m +ℤ pos 1 ≡ pos (r + 1) +ℤ z) × (m +ℤ pos 2 ≡ pos (r + 2) +ℤ z)
regrouped m z r e = (omega (arith, ints, e), omega (arith, ints, e), omega (arith, ints, e))

between_later : (w : WheelParts) (k : ℤ) (m n i j : ℤ) → 0 < edge_count w Crank → m ≡ later w k Crank i → n ≡ later w k Crank j → slots_between w m n ≡ slots_between w i j
between_later w k m n i j some e f = ap (λ z. slots_between w z n) e ∙ ap (slots_between w (later w k Crank i)) f ∙ slots_between-later w k i j some

-- the gap after any edge, and the one that follows it, are those of its number
pub by_number : (w : WheelParts) (m : ℤ) → 0 < edge_count w Crank → (slots_between w m (m +ℤ pos 1) ≡ gap w (number_of (edge_count w Crank) m)) × (slots_between w (m +ℤ pos 1) (m +ℤ pos 2) ≡ gap_after w (number_of (edge_count w Crank) m))
by_number w m some =
    let count = edge_count w Crank in
    let k = cycle_of count m in
    let r = number_of count m in
    let at = regrouped m (k *ℤ pos count) r (carried count m some) in
    (between_later w k m (m +ℤ pos 1) (pos r) (pos (r + 1)) some at.0 at.1, between_later w k (m +ℤ pos 1) (m +ℤ pos 2) (pos (r + 1)) (pos (r + 2)) some at.1 at.2)

-- each gap is that after some edge of a cycle, and so are two that follow each other
pub gap_of : (w : WheelParts) (s : ℕ) → 0 < edge_count w Crank → IsGap w s → (j : ℕ) × (j < edge_count w Crank) × (s ≡ gap w j)
gap_of w s some (m, e) = (number_of (edge_count w Crank) m, number_below (edge_count w Crank) m some, e ∙ (by_number w m some).0)

pub gaps_of : (w : WheelParts) (s0 s1 : ℕ) → 0 < edge_count w Crank → AreGaps w s0 s1 → (j : ℕ) × (j < edge_count w Crank) × (s0 ≡ gap w j) × (s1 ≡ gap_after w j)
gaps_of w s0 s1 some (m, (e, f)) = (number_of (edge_count w Crank) m, number_below (edge_count w Crank) m some, e ∙ (by_number w m some).0, f ∙ (by_number w m some).1)

-- the gap that follows is that of the next edge
pub after_within : (w : WheelParts) (i j : ℕ) → i ≡ j + 1 → gap w i ≡ gap_after w j
after_within w i j e =
    let after : i + 1 ≡ j + 2 = omega (arith, e) in
    ap (λ k. slots_between w (pos k) (pos (i + 1))) e ∙ ap (λ k. slots_between w (pos (j + 1)) (pos k)) after

turned : (count i j : ℕ) → i ≡ 0 → j + 1 ≡ count → (pos (j + 1) ≡ pos i +ℤ pos 1 *ℤ pos count) × (pos (j + 2) ≡ pos (i + 1) +ℤ pos 1 *ℤ pos count)
turned count i j e f = (omega (arith, ints, e, f), omega (arith, ints, e, f))

-- after the last edge it is that of the first one
pub after_across : (w : WheelParts) (i j : ℕ) → i ≡ 0 → j + 1 ≡ edge_count w Crank → gap w i ≡ gap_after w j
after_across w i j e f =
    let at = turned (edge_count w Crank) i j e f in
    sym (between_later w (pos 1) (pos (j + 1)) (pos (j + 2)) (pos i) (pos (i + 1)) (omega (arith, f)) at.0 at.1)
