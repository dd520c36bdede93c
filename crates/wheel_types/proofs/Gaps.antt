-- How many slots there are from a crank edge to the next, by the number of the edge in its cycle.
use Rattle.std.proofs.Common.{◌≡◌, ℕ, ◌+◌, ◌-◌, ◌<◌, ◌≤◌, ℤ, pos, ◌+ℤ◌, ◌-ℤ◌, ◌*ℤ◌, sym, ◌∙◌, ap, arith, add-one, zero, suc, negsuc}
use Rattle.std.proofs.lemmas.Int.{ints}
use Rattle.std.proofs.Math.IntN.{zero-*ℤ}
use Rattle.std.specs.Prelude.{slice_index, unsigned_abs}
use Rattle.wheel_types.specs.declared.channel.Channel.TheVariants.{Crank}
use Rattle.wheel_types.specs.declared.parts.WheelParts.{WheelParts}
use Rattle.wheel_types.specs.Edges.{edge_count, edge_slots, slot_count, slot_of, number_of, cycle_of}
use Rattle.wheel_types.specs.Motions.{slots_between}
use Rattle.wheel_types.proofs.Unrolled.{carried, carried_once}
use Rattle.wheel_types.proofs.Rising.{slot_at, at_rises, at_below, edge_slots-ascend, edge_slots-below}
use Rattle.wheel_types.proofs.Shifted.{later, slots_between-later}

-- the slot of crank edge j of the first cycle
abbrev pub slot : WheelParts → ℕ → ℕ
slot w j = slice_index (edge_slots w Crank) j

in_first : (j count : ℕ) → pos j ≡ pos 0 *ℤ pos count +ℤ pos j
in_first j count =
    let same : pos j ≡ pos 0 +ℤ pos j = omega (arith, ints) in
    same ∙ ap (λ z. z +ℤ pos j) (sym (zero-*ℤ (pos count)))

-- an edge of the first cycle is at its slot
pub slot_of-first : (w : WheelParts) (j : ℕ) → j < edge_count w Crank → slot_of w Crank (pos j) ≡ pos (slot w j)
slot_of-first w j h = slot_at w Crank (pos j) (pos 0) j h (in_first j (edge_count w Crank)) ∙ sym (in_first (slot w j) (slot_count w))

once : (n a : ℕ) → pos 1 *ℤ pos n +ℤ pos a ≡ pos (n + a)
once n a =
    let one : pos 1 *ℤ pos n ≡ pos n = omega (arith, ints) in
    ap (λ z. z +ℤ pos a) one

-- the edge after the last is the first one, a cycle later
pub slot_of-after_last : (w : WheelParts) (j : ℕ) → j + 1 ≡ edge_count w Crank → slot_of w Crank (pos (j + 1)) ≡ pos (slot_count w + slot w 0)
slot_of-after_last w j e =
    let here : pos (j + 1) ≡ pos (edge_count w Crank + 0) = ap pos (omega arith) in
    slot_at w Crank (pos (j + 1)) (pos 1) 0 (omega arith) (here ∙ sym (once (edge_count w Crank) 0)) ∙ once (slot_count w) (slot w 0)

apart : (a b : ℕ) → a ≤ b → unsigned_abs (pos b -ℤ pos a) ≡ b - a
apart a b h = omega (arith, ints)

between : (w : WheelParts) (m n : ℤ) (a b : ℕ) → slot_of w Crank m ≡ pos a → slot_of w Crank n ≡ pos b → a ≤ b → slots_between w m n ≡ b - a
between w m n a b e f h = ap (λ z. unsigned_abs (slot_of w Crank n -ℤ z)) e ∙ ap (λ z. unsigned_abs (z -ℤ pos a)) f ∙ apart a b h

slot_rises : (w : WheelParts) (j : ℕ) → j + 1 < edge_count w Crank → slot w j < slot w (j + 1)
slot_rises w j h = rw add-one (at_rises 0 (edge_slots w Crank) j (edge_slots-ascend w Crank) (omega (arith, h)))

-- from an edge that is not the last of its cycle
pub gap_within : (w : WheelParts) (j : ℕ) → j + 1 < edge_count w Crank → slots_between w (pos j) (pos (j + 1)) ≡ slot w (j + 1) - slot w j
gap_within w j h =
    let rises : slot w j < slot w (j + 1) = slot_rises w j h in
    between w (pos j) (pos (j + 1)) (slot w j) (slot w (j + 1)) (slot_of-first w j (omega arith)) (slot_of-first w (j + 1) h) (omega arith)

-- from the last edge of a cycle
pub gap_across : (w : WheelParts) (j : ℕ) → j + 1 ≡ edge_count w Crank → slots_between w (pos j) (pos (j + 1)) ≡ slot_count w - slot w j + slot w 0
gap_across w j e =
    let some : j < edge_count w Crank = omega arith in
    let below : slot w j < slot_count w = at_below (slot_count w) (edge_slots w Crank) j (edge_slots-below w Crank) some in
    let sum : slot_count w + slot w 0 - slot w j ≡ slot_count w - slot w j + slot w 0 = omega arith in
    between w (pos j) (pos (j + 1)) (slot w j) (slot_count w + slot w 0) (slot_of-first w j some) (slot_of-after_last w j e) (omega arith) ∙ sum

-- from a lone edge it is the whole cycle
pub gap_alone : (w : WheelParts) → edge_count w Crank ≡ 1 → slots_between w (pos 0) (pos 1) ≡ slot_count w
gap_alone w e =
    let below : slot w 0 < slot_count w = at_below (slot_count w) (edge_slots w Crank) 0 (edge_slots-below w Crank) (omega arith) in
    let sum : slot_count w - slot w 0 + slot w 0 ≡ slot_count w = omega arith in
    gap_across w 0 (sym e) ∙ sum

regrouped : (m z : ℤ) (r : ℕ) → m ≡ z +ℤ pos r → m ≡ pos r +ℤ z
regrouped m z r e = omega (arith, ints, e)

next_regrouped : (m z : ℤ) (r : ℕ) → m ≡ z +ℤ pos r → m +ℤ pos 1 ≡ pos (r + 1) +ℤ z
next_regrouped m z r e = omega (arith, ints, e)

-- a gap is that of the edge's number in its cycle
pub gap_by_number : (w : WheelParts) (m : ℤ) → 0 < edge_count w Crank → slots_between w m (m +ℤ pos 1) ≡ slots_between w (pos (number_of (edge_count w Crank) m)) (pos (number_of (edge_count w Crank) m + 1))
gap_by_number w m h =
    let count = edge_count w Crank in
    let k = cycle_of count m in
    let r = number_of count m in
    let here : m ≡ later w k Crank (pos r) = regrouped m (k *ℤ pos count) r (carried count m h) in
    let next : m +ℤ pos 1 ≡ later w k Crank (pos (r + 1)) = next_regrouped m (k *ℤ pos count) r (carried count m h) in
    ap (λ z. slots_between w z (m +ℤ pos 1)) here ∙ ap (λ z. slots_between w (later w k Crank (pos r)) z) next ∙ slots_between-later w k (pos r) (pos (r + 1)) h

on_and_back : (m : ℤ) → (m -ℤ pos 1) +ℤ pos 1 ≡ m
on_and_back m = omega (arith, ints)

-- the gap that ends at an edge is that of the number of the edge before it
pub gap_before : (w : WheelParts) (m : ℤ) → 0 < edge_count w Crank → slots_between w (m -ℤ pos 1) m ≡ slots_between w (pos (number_of (edge_count w Crank) (m -ℤ pos 1))) (pos (number_of (edge_count w Crank) (m -ℤ pos 1) + 1))
gap_before w m h = ap (slots_between w (m -ℤ pos 1)) (sym (on_and_back m)) ∙ gap_by_number w (m -ℤ pos 1) h

-- ---- the gaps that a legal step reads

back_to : (j : ℕ) → pos (j + 1) -ℤ pos 1 ≡ pos j
back_to j = omega (arith, ints)

-- the gap that ends at the next edge of a place
pub gap_at_place : (w : WheelParts) (j : ℕ) → slots_between w (pos (j + 1) -ℤ pos 1) (pos (j + 1)) ≡ slots_between w (pos j) (pos (j + 1))
gap_at_place w j = ap (λ z. slots_between w z (pos (j + 1))) (back_to j)

-- the number of the edge before edge j of a cycle of so many
abbrev pub number_before : ℕ → ℕ → ℕ
number_before count zero = count - 1
number_before count (suc j) = j

cycle_back : (count : ℕ) → 0 < count → pos 0 -ℤ pos 1 ≡ negsuc 0 *ℤ pos count +ℤ pos (count - 1)
cycle_back count h = omega (arith, ints)

one_back : (j : ℕ) → pos (suc j) -ℤ pos 1 ≡ pos j
one_back j = omega (arith, ints)

number_of-before : (count j : ℕ) → j < count → number_of count (pos j -ℤ pos 1) ≡ number_before count j
number_of-before count zero h = (carried_once count (pos 0 -ℤ pos 1) (negsuc 0) (count - 1) (omega arith) (cycle_back count h)).1
number_of-before count (suc j) h = (carried_once count (pos (suc j) -ℤ pos 1) (pos 0) j (omega arith) (one_back j ∙ in_first j count)).1

-- the gap before it
pub gap_before_place : (w : WheelParts) (j : ℕ) → j < edge_count w Crank → slots_between w ((pos (j + 1) -ℤ pos 1) -ℤ pos 1) (pos (j + 1) -ℤ pos 1) ≡ slots_between w (pos (number_before (edge_count w Crank) j)) (pos (number_before (edge_count w Crank) j + 1))
gap_before_place w j h =
    ap (λ z. slots_between w (z -ℤ pos 1) z) (back_to j)
    ∙ gap_before w (pos j) (omega arith)
    ∙ ap (λ r. slots_between w (pos r) (pos (r + 1))) (number_of-before (edge_count w Crank) j h)
