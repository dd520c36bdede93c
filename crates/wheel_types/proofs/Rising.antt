-- The slots and angles of unrolled edges rise.
use Rattle.std.proofs.Common.{◌≡◌, ℕ, zero, suc, ◌+◌, ◌*◌, ◌<◌, ◌≤◌, ◌⊎◌, inl, inr, Bool, true, false, cond, List, [], ◌∷◌, ◌++◌, ℤ, pos, ◌+ℤ◌, ◌*ℤ◌, ◌≤ℤ◌, ◌<ℤ◌, length, ◌∙◌, ap, arith, add-one}
use Rattle.std.proofs.lemmas.Int.{ints}
use Rattle.std.proofs.Math.Nat.{add-mul, mul-le-mul, le_refl}
use borrow.Author.Differences.{up, down}
use Rattle.std.proofs.Math.IntN.{*ℤ_comm}
use Rattle.std.specs.Prelude.{slice_index, filter, is_some}
use Rattle.wheel_types.specs.declared.channel.Channel.{Channel}
use Rattle.wheel_types.specs.declared.parts.WheelParts.{WheelParts}
use Rattle.wheel_types.specs.Edges.{below, edge_at, edge_count, edge_slots, slot_count, slot_of, angle_of, number_of, cycle_of, last_angle, late_of}
use Rattle.wheel_types.proofs.Unrolled.{carried, carried_once, number_below, distribute, times}

-- numbers that rise and stay below n
abbrev pub Ascends : ℕ → List ℕ → Type 0
Ascends low [] = Unit {0}
Ascends low (x ∷ xs) = (low ≤ x) × Ascends (x + 1) xs

abbrev pub AllBelow : ℕ → List ℕ → Type 0
AllBelow n [] = Unit {0}
AllBelow n (x ∷ xs) = (x < n) × AllBelow n xs

ascends-weaker : (a b : ℕ) (xs : List ℕ) → a ≤ b → Ascends b xs → Ascends a xs
ascends-weaker a b [] h s = tt
ascends-weaker a b (x ∷ xs) h s = (omega (arith, h, s.0), s.1)

ascends-filter : (p : ℕ → Bool) (a : ℕ) (xs : List ℕ) → Ascends a xs → Ascends a (filter p xs)
ascends-filter p a [] s = tt
ascends-filter p a (x ∷ xs) s = elim (p x) as (λ b. Ascends a (cond b (x ∷ filter p xs) (filter p xs))) [ true ↦ (s.0, ascends-filter p (x + 1) xs s.1) | false ↦ ascends-weaker a (x + 1) (filter p xs) (omega (arith, s.0)) (ascends-filter p (x + 1) xs s.1) ]

ascends-append : (a n : ℕ) (xs : List ℕ) → a ≤ n → Ascends a xs → AllBelow n xs → Ascends a (xs ++ n ∷ [])
ascends-append a n [] h s b = (h, tt)
ascends-append a n (x ∷ xs) h s b = (s.0, ascends-append (x + 1) n xs (omega (arith, b.0)) s.1 b.1)

below-more : (n : ℕ) (xs : List ℕ) → AllBelow n xs → AllBelow (suc n) (xs ++ n ∷ [])
below-more n [] b = (omega arith, tt)
below-more n (x ∷ xs) b = (omega (arith, b.0), below-more n xs b.1)

below-below : (n : ℕ) → AllBelow n (below n)
below-below zero = tt
below-below (suc n) = below-more n (below n) (below-below n)

below-ascends : (n : ℕ) → Ascends 0 (below n)
below-ascends zero = tt
below-ascends (suc n) = ascends-append 0 n (below n) (omega arith) (below-ascends n) (below-below n)

below-filter : (p : ℕ → Bool) (n : ℕ) (xs : List ℕ) → AllBelow n xs → AllBelow n (filter p xs)
below-filter p n [] b = tt
below-filter p n (x ∷ xs) b = elim (p x) as (λ t. AllBelow n (cond t (x ∷ filter p xs) (filter p xs))) [ true ↦ (b.0, below-filter p n xs b.1) | false ↦ below-filter p n xs b.1 ]

pub at_below : (n : ℕ) (xs : List ℕ) (k : ℕ) → AllBelow n xs → k < length xs → slice_index xs k < n
at_below n [] k b h = absurd (omega (arith, h))
at_below n (x ∷ xs) zero b h = b.0
at_below n (x ∷ xs) (suc k) b h = at_below n xs k b.1 (omega (arith, h))

first_rises : (a : ℕ) (xs : List ℕ) → Ascends a xs → 0 < length xs → a ≤ slice_index xs 0
first_rises a [] s h = absurd (omega (arith, h))
first_rises a (x ∷ xs) s h = s.0

pub at_rises : (a : ℕ) (xs : List ℕ) (k : ℕ) → Ascends a xs → suc k < length xs → slice_index xs k < slice_index xs (suc k)
at_rises a [] k s h = absurd (omega (arith, h))
at_rises a (x ∷ xs) zero s h = omega (arith, first_rises (x + 1) xs s.1 (omega (arith, h)))
at_rises a (x ∷ xs) (suc k) s h = at_rises (x + 1) xs k s.1 (omega (arith, h))

pub edge_slots-ascend : (w : WheelParts) (c : Channel) → Ascends 0 (edge_slots w c)
edge_slots-ascend w c = ascends-filter (λ k. is_some (edge_at w c k)) 0 (below (slot_count w)) (below-ascends (slot_count w))

pub edge_slots-below : (w : WheelParts) (c : Channel) → AllBelow (slot_count w) (edge_slots w c)
edge_slots-below w c = below-filter (λ k. is_some (edge_at w c k)) (slot_count w) (below (slot_count w)) (below-below (slot_count w))

next_in : (m z : ℤ) (r : ℕ) → m ≡ z +ℤ pos r → m +ℤ pos 1 ≡ z +ℤ pos (r + 1)
next_in m z r e = omega (arith, ints, e)

next_turn : (m q : ℤ) (r count : ℕ) → r + 1 ≡ count → m ≡ q *ℤ pos count +ℤ pos r → m +ℤ pos 1 ≡ (q +ℤ pos 1) *ℤ pos count +ℤ pos 0
next_turn m q r count h e = rw (distribute q (pos 1) count) (let one : pos 1 *ℤ pos count ≡ pos count = omega (arith, ints) in rw one (omega (arith, ints, e, h)))

in_order : (z : ℤ) (a b : ℕ) → a < b → (z +ℤ pos a) <ℤ (z +ℤ pos b)
in_order z a b h = omega (arith, ints)

turn_order : (q : ℤ) (n a b : ℕ) → a < n → (q *ℤ pos n +ℤ pos a) <ℤ ((q +ℤ pos 1) *ℤ pos n +ℤ pos b)
turn_order q n a b h = rw (distribute q (pos 1) n) (let one : pos 1 *ℤ pos n ≡ pos n = omega (arith, ints) in rw one (omega (arith, ints)))

-- where the next edge lies
pub slot_at : (w : WheelParts) (c : Channel) (m q : ℤ) (r : ℕ) → r < edge_count w c → m ≡ q *ℤ pos (edge_count w c) +ℤ pos r → slot_of w c m ≡ q *ℤ pos (slot_count w) +ℤ pos (slice_index (edge_slots w c) r)
slot_at w c m q r h e =
    let only = carried_once (edge_count w c) m q r h e in
    ap (λ k. cycle_of (edge_count w c) m *ℤ pos (slot_count w) +ℤ pos (slice_index (edge_slots w c) k)) only.1 ∙ ap (λ k. k *ℤ pos (slot_count w) +ℤ pos (slice_index (edge_slots w c) r)) only.0

rises_by : (w : WheelParts) (c : Channel) (m q : ℤ) (r : ℕ) → m ≡ q *ℤ pos (edge_count w c) +ℤ pos r → (r + 1 < edge_count w c) ⊎ (r + 1 ≡ edge_count w c) → slot_of w c m <ℤ slot_of w c (m +ℤ pos 1)
rises_by w c m q r e (inl h) =
    rw (slot_at w c m q r (omega arith) e, slot_at w c (m +ℤ pos 1) q (r + 1) h (next_in m (q *ℤ pos (edge_count w c)) r e)) (in_order (q *ℤ pos (slot_count w)) _ _ (rw add-one (at_rises 0 (edge_slots w c) r (edge_slots-ascend w c) (omega (arith, h)))))
rises_by w c m q r e (inr h) =
    rw (slot_at w c m q r (omega arith) e, slot_at w c (m +ℤ pos 1) (q +ℤ pos 1) 0 (omega arith) (next_turn m q r (edge_count w c) h e)) (turn_order q (slot_count w) _ _ (at_below (slot_count w) (edge_slots w c) r (edge_slots-below w c) (omega arith)))

last_or_not : (r n : ℕ) → r < n → (r + 1 < n) ⊎ (r + 1 ≡ n)
last_or_not r n h = grind arith

pub slot_of-rises : (w : WheelParts) (c : Channel) (m : ℤ) → 0 < edge_count w c → slot_of w c m <ℤ slot_of w c (m +ℤ pos 1)
slot_of-rises w c m h = rises_by w c m (cycle_of (edge_count w c) m) (number_of (edge_count w c) m) (carried (edge_count w c) m h) (last_or_not _ _ (number_below (edge_count w c) m h))

times_rises : (a b : ℤ) (k : ℕ) → a <ℤ b → (pos k *ℤ a) ≤ℤ (pos k *ℤ b)
times_rises a b k h =
    let apart : up a + down b ≤ up b + down a = omega (arith, ints, h) in
    let spread : (up a + down b) * k ≤ (up b + down a) * k = mul-le-mul apart (le_refl k) in
    rw (*ℤ_comm (pos k) a, *ℤ_comm (pos k) b) (omega (arith, ints, times a k, times b k, simp add-mul at spread))

pub angle_of-rises : (w : WheelParts) (c : Channel) (m : ℤ) → 0 < edge_count w c → angle_of w c m ≤ℤ angle_of w c (m +ℤ pos 1)
angle_of-rises w c m h = times_rises _ _ (1000 * w.degrees) (slot_of-rises w c m h)

plus_both : (a b t : ℤ) → a ≤ℤ b → (a +ℤ t) ≤ℤ (b +ℤ t)
plus_both a b t h = omega (arith, ints)

pub last_angle-rises : (w : WheelParts) (c : Channel) (m : ℤ) → 0 < edge_count w c → last_angle w c m ≤ℤ last_angle w c (m +ℤ pos 1)
last_angle-rises w c m h = plus_both _ _ (pos (late_of w c * slot_count w)) (angle_of-rises w c m h)
