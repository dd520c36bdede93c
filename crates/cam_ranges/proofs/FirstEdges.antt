-- The first edge of a channel at a slot or after it.
use Rattle.std.proofs.Common.{◌≡◌, ℕ, zero, suc, ◌-◌, ◌<◌, ◌≤◌, ◌⊎◌, inl, inr, ◌↔◌, ℤ, pos, negsuc, ◌+ℤ◌, ◌-ℤ◌, ◌*ℤ◌, ◌≤ℤ◌, ◌<ℤ◌, refl, sym, ◌∙◌, ap, subst, arith}
use Rattle.std.proofs.lemmas.Int.{ints, by_lt_z}
use Rattle.std.specs.Prelude.{slice_index, unsigned_abs}
use Rattle.wheel_types.specs.declared.channel.Channel.{Channel}
use Rattle.wheel_types.specs.declared.parts.WheelParts.{WheelParts}
use Rattle.wheel_types.specs.Edges.{edge_count, edge_slots, slot_count, slot_of}
use Rattle.wheel_types.proofs.Unrolled.{distribute}
use Rattle.wheel_types.proofs.Rising.{slot_at, slot_of-rises}
use Rattle.edge_angles.proofs.Tables.{slot_in, slot_within}
use Rattle.cam_ranges.specs.Searches.{IsCountBefore}

-- ---- slots rise with the edges

-- no edge on is the same edge
none_on : (m : ℤ) → m +ℤ pos 0 ≡ m
none_on m = omega (arith, ints)

-- one edge more is one on
one_on : (m : ℤ) (k : ℕ) → m +ℤ pos (suc k) ≡ (m +ℤ pos k) +ℤ pos 1
one_on m k = omega (arith, ints)

-- one slot more
risen : (a b c : ℤ) (k : ℕ) → (a +ℤ pos k) ≤ℤ b → b <ℤ c → (a +ℤ pos (suc k)) ≤ℤ c
risen a b c k h g = omega (arith, ints)

-- a slot is none after itself
at_least_itself : (a : ℤ) → (a +ℤ pos 0) ≤ℤ a
at_least_itself a = omega (arith, ints)

-- so many edges on, at least as many slots on
pub slots_on : (w : WheelParts) (c : Channel) (m : ℤ) (k : ℕ) → 0 < edge_count w c → (slot_of w c m +ℤ pos k) ≤ℤ slot_of w c (m +ℤ pos k)
slots_on w c m zero h = subst (λ n. (slot_of w c m +ℤ pos 0) ≤ℤ slot_of w c n) (sym (none_on m)) (at_least_itself (slot_of w c m))
slots_on w c m (suc k) h = subst (λ n. (slot_of w c m +ℤ pos (suc k)) ≤ℤ slot_of w c n) (sym (one_on m k)) (risen (slot_of w c m) (slot_of w c (m +ℤ pos k)) (slot_of w c ((m +ℤ pos k) +ℤ pos 1)) k (slots_on w c m k h) (slot_of-rises w c (m +ℤ pos k) h))

-- a later number is its difference on
on_by : (m n : ℤ) → m ≤ℤ n → m +ℤ pos (unsigned_abs (n -ℤ m)) ≡ n
on_by m n h = omega (arith, ints)

-- a later edge is at least as many slots later
pub slots_apart : (w : WheelParts) (c : Channel) (m n : ℤ) → 0 < edge_count w c → m ≤ℤ n → (slot_of w c m +ℤ pos (unsigned_abs (n -ℤ m))) ≤ℤ slot_of w c n
slots_apart w c m n h le = subst (λ k. (slot_of w c m +ℤ pos (unsigned_abs (n -ℤ m))) ≤ℤ slot_of w c k) (on_by m n le) (slots_on w c m (unsigned_abs (n -ℤ m)) h)

-- some slots later is not earlier
weaker : (a b : ℤ) (k : ℕ) → (a +ℤ pos k) ≤ℤ b → a ≤ℤ b
weaker a b k h = omega (arith, ints)

-- a later edge is at no earlier slot
pub slots_rise : (w : WheelParts) (c : Channel) (m n : ℤ) → 0 < edge_count w c → m ≤ℤ n → slot_of w c m ≤ℤ slot_of w c n
slots_rise w c m n h le = weaker _ _ _ (slots_apart w c m n h le)

-- ---- the first edge from a slot on

-- a number is from another on, or before it
either : (r n : ℤ) → (r ≤ℤ n) ⊎ (n ≤ℤ (r -ℤ pos 1))
either r n = grind (arith, ints)

-- at most, by way of another
through : {a b c : ℤ} → a ≤ℤ b → b ≤ℤ c → a ≤ℤ c
through {a} {b} {c} h k = omega (arith, ints)

-- a slot is not both from another on and before it
not_both : (s a b : ℤ) → s ≤ℤ a → a ≤ℤ b → b <ℤ s → ⊥
not_both s a b h k l = absurd (omega (arith, ints, h, k, l))

-- an edge at the slot or after it, the edge before it being before the slot
pub first_edge : (w : WheelParts) (c : Channel) (s r : ℤ) → 0 < edge_count w c → s ≤ℤ slot_of w c r → slot_of w c (r -ℤ pos 1) <ℤ s → (n : ℤ) → s ≤ℤ slot_of w c n ↔ r ≤ℤ n
first_edge w c s r h at before n = (λ k. from k (either r n), λ k. through at (slots_rise w c r n h k))
  where
    from : s ≤ℤ slot_of w c n → (r ≤ℤ n) ⊎ (n ≤ℤ (r -ℤ pos 1)) → r ≤ℤ n
    from k (inl l) = l
    from k (inr l) = absurd (not_both s (slot_of w c n) (slot_of w c (r -ℤ pos 1)) k (slots_rise w c n (r -ℤ pos 1) h l) before)

-- ---- found within a cycle

-- slots of a cycle are in the order of their numbers
in_cycle : (z : ℤ) (a b : ℕ) → a ≤ b → (z +ℤ pos a) ≤ℤ (z +ℤ pos b)
in_cycle z a b h = omega (arith, ints)

-- and apart where these are
before_in_cycle : (z : ℤ) (a b : ℕ) → a < b → (z +ℤ pos a) <ℤ (z +ℤ pos b)
before_in_cycle z a b h = omega (arith, ints)

-- the next cycle begins a cycle later
one_cycle_on : (q : ℤ) (n : ℕ) → (q +ℤ pos 1) *ℤ pos n ≡ q *ℤ pos n +ℤ pos n
one_cycle_on q n =
    let one : pos 1 *ℤ pos n ≡ pos n = omega (arith, ints) in
    distribute q (pos 1) n ∙ ap (λ z. q *ℤ pos n +ℤ z) one

-- and the one before a cycle earlier
one_cycle_back : (q : ℤ) (n : ℕ) → (q -ℤ pos 1) *ℤ pos n +ℤ pos n ≡ q *ℤ pos n
one_cycle_back q n =
    let back : (q -ℤ pos 1) +ℤ pos 1 ≡ q = omega (arith, ints) in
    sym (one_cycle_on (q -ℤ pos 1) n) ∙ ap (λ z. z *ℤ pos n) back

-- the edge after the last of a cycle is the first of the next
next_cycle : (w : WheelParts) (c : Channel) (q : ℤ) → 0 < edge_count w c → slot_of w c (q *ℤ pos (edge_count w c) +ℤ pos (edge_count w c)) ≡ (q +ℤ pos 1) *ℤ pos (slot_count w) +ℤ pos (slice_index (edge_slots w c) 0)
next_cycle w c q h = slot_at w c _ (q +ℤ pos 1) 0 h (sym (none_on ((q +ℤ pos 1) *ℤ pos (edge_count w c)) ∙ one_cycle_on q (edge_count w c)))

-- a slot of the next cycle is after one of this
after_cycle : (z : ℤ) (n r a : ℕ) → r < n → (z +ℤ pos r) ≤ℤ ((z +ℤ pos n) +ℤ pos a)
after_cycle z n r a h = omega (arith, ints)

-- at most is below or equal
below_or_at : (k n : ℕ) → k ≤ n → (k < n) ⊎ (k ≡ n)
below_or_at k n h = grind arith

-- the edge after those before the slot is at the slot or after it
at_or_after : (w : WheelParts) (c : Channel) (q : ℤ) (r k : ℕ) → 0 < edge_count w c → r < slot_count w → IsCountBefore w c r k → (k < edge_count w c) ⊎ (k ≡ edge_count w c) → (q *ℤ pos (slot_count w) +ℤ pos r) ≤ℤ slot_of w c (q *ℤ pos (edge_count w c) +ℤ pos k)
at_or_after w c q r k h below b (inl l) = subst (λ z. (q *ℤ pos (slot_count w) +ℤ pos r) ≤ℤ z) (sym (slot_at w c _ q k l refl)) (in_cycle (q *ℤ pos (slot_count w)) r _ (b.from k (omega arith) l))
at_or_after w c q r k h below b (inr e) =
    let at : slot_of w c (q *ℤ pos (edge_count w c) +ℤ pos k) ≡ (q *ℤ pos (slot_count w) +ℤ pos (slot_count w)) +ℤ pos (slice_index (edge_slots w c) 0) =
    ap (λ n. slot_of w c (q *ℤ pos (edge_count w c) +ℤ pos n)) e ∙ next_cycle w c q h ∙ ap (λ z. z +ℤ pos (slice_index (edge_slots w c) 0)) (one_cycle_on q (slot_count w)) in
    subst (λ z. (q *ℤ pos (slot_count w) +ℤ pos r) ≤ℤ z) (sym at) (after_cycle (q *ℤ pos (slot_count w)) (slot_count w) r _ below)

-- the edge before one that is not the first of its cycle
one_less : (z : ℤ) (k : ℕ) → (z +ℤ pos (suc k)) -ℤ pos 1 ≡ z +ℤ pos k
one_less z k = omega (arith, ints)

-- the edge before the first of a cycle is the last of the one before
last_before : (y z : ℤ) (n : ℕ) → y +ℤ pos n ≡ z → 0 < n → (z +ℤ pos 0) -ℤ pos 1 ≡ y +ℤ pos (n - 1)
last_before y z n e h = omega (arith, ints, e)

-- a slot of the cycle before is before one of this
ends_before : (y z : ℤ) (n a r : ℕ) → y +ℤ pos n ≡ z → a < n → (y +ℤ pos a) <ℤ (z +ℤ pos r)
ends_before y z n a r e h = omega (arith, ints, e)

-- and the edge before it is before the slot
last_of_before : (w : WheelParts) (c : Channel) (q : ℤ) (r k : ℕ) → 0 < edge_count w c → IsCountBefore w c r k → slot_of w c ((q *ℤ pos (edge_count w c) +ℤ pos k) -ℤ pos 1) <ℤ (q *ℤ pos (slot_count w) +ℤ pos r)
last_of_before w c q r zero h b =
    let last = edge_count w c - 1 in
    let within : last < edge_count w c = omega arith in
    let at = slot_at w c _ (q -ℤ pos 1) last within (last_before ((q -ℤ pos 1) *ℤ pos (edge_count w c)) (q *ℤ pos (edge_count w c)) (edge_count w c) (one_cycle_back q (edge_count w c)) h) in
    subst (λ z. z <ℤ (q *ℤ pos (slot_count w) +ℤ pos r)) (sym at) (ends_before ((q -ℤ pos 1) *ℤ pos (slot_count w)) (q *ℤ pos (slot_count w)) (slot_count w) _ r (one_cycle_back q (slot_count w)) (slot_within w c last within))
last_of_before w c q r (suc k) h b =
    let within : k < edge_count w c = omega (arith, b.within) in
    let at = slot_at w c _ q k within (one_less (q *ℤ pos (edge_count w c)) k) in
    subst (λ z. z <ℤ (q *ℤ pos (slot_count w) +ℤ pos r)) (sym at) (before_in_cycle (q *ℤ pos (slot_count w)) _ r (b.before k (omega arith)))

-- the edge after those of the cycle that are before the slot is the first one from the slot on
pub found_from : (w : WheelParts) (c : Channel) (s q : ℤ) (r k : ℕ) → 0 < edge_count w c → s ≡ q *ℤ pos (slot_count w) +ℤ pos r → r < slot_count w → IsCountBefore w c r k → (n : ℤ) → s ≤ℤ slot_of w c n ↔ (q *ℤ pos (edge_count w c) +ℤ pos k) ≤ℤ n
found_from w c s q r k h e below b =
    first_edge w c s (q *ℤ pos (edge_count w c) +ℤ pos k) h
    (subst (λ z. z ≤ℤ slot_of w c (q *ℤ pos (edge_count w c) +ℤ pos k)) (sym e) (at_or_after w c q r k h below b (below_or_at k (edge_count w c) b.within)))
    (subst (λ z. slot_of w c ((q *ℤ pos (edge_count w c) +ℤ pos k) -ℤ pos 1) <ℤ z) (sym e) (last_of_before w c q r k h b))

-- ---- how far it is

-- edge 0 is in the first cycle
pub zero_slot : (w : WheelParts) (c : Channel) → 0 < edge_count w c → (pos 0 ≤ℤ slot_of w c (pos 0)) × (slot_of w c (pos 0) <ℤ pos (slot_count w))
zero_slot w c h = between (slot_of w c (pos 0)) (slice_index (edge_slots w c) 0) (slot_count w) (slot_in w c 0 h) (slot_within w c 0 h)
  where
    between : (z : ℤ) (a n : ℕ) → z ≡ pos a → a < n → (pos 0 ≤ℤ z) × (z <ℤ pos n)
    between z a n e b = (omega (arith, ints, e), omega (arith, ints, e))

-- so many slots on, any slot near 0 is passed
far_above : (s y z : ℤ) → unsigned_abs s ≤ 32768 → pos 0 ≤ℤ y → (y +ℤ pos 32768) ≤ℤ z → s ≤ℤ z
far_above s y z h k l = omega (arith, ints)

-- so many slots back, none is
far_below : (s y z : ℤ) (n : ℕ) → unsigned_abs s ≤ 32768 → y <ℤ pos n → n ≤ 4096 → (z +ℤ pos 65537) ≤ℤ y → s ≤ℤ z → ⊥
far_below s y z n h k few l g = absurd (omega (arith, ints))

-- a number between these ends is small
ends_small : (r : ℤ) → r ≤ℤ pos 32768 → (r ≤ℤ negsuc 65536 → ⊥) → unsigned_abs r ≤ 65536
ends_small r h n = by_lt_z (negsuc 65536) r (λ k. omega (arith, ints, h, k)) (λ k. absurd (n k))

-- an edge that is the first from a slot near 0 on is near 0
pub edge_small : (w : WheelParts) (c : Channel) (s r : ℤ) → 0 < edge_count w c → slot_count w ≤ 4096 → unsigned_abs s ≤ 32768 → ((n : ℤ) → s ≤ℤ slot_of w c n ↔ r ≤ℤ n) → unsigned_abs r ≤ 65536
edge_small w c s r h few small first =
    let zero_at = zero_slot w c h in
    ends_small r
    ((first (pos 32768)).0 (far_above s (slot_of w c (pos 0)) (slot_of w c (pos 32768)) small zero_at.0 (slots_on w c (pos 0) 32768 h)))
    (λ k. far_below s (slot_of w c (pos 0)) (slot_of w c (negsuc 65536)) (slot_count w) small zero_at.1 few (slots_on w c (negsuc 65536) 65537 h) ((first (negsuc 65536)).1 k))
