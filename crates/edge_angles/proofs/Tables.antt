-- Tables of a wheel's kept edges, edge by edge.
use Rattle.std.proofs.Common.{◌≡◌, ℕ, zero, suc, ◌+◌, ◌<◌, Bool, true, false, cond, List, [], ◌∷◌, ◌++◌, map, length, get_or, refl, sym, ◌∙◌, ap, subst, add-one, arith, ◌⊎◌, inl, inr}
use Rattle.std.proofs.lemmas.List.Elements.{filter-append}
use Rattle.std.proofs.lemmas.List.{map-append, get_or-map, append-nil, length-map, length-append}
use Rattle.std.proofs.lemmas.List.Elements.{All-nil, All-cons, All-map, All-weaker, All-get_or}
use Rattle.std.proofs.Math.Nat.{mod-eq_of_lt}
use Rattle.std.proofs.lemmas.Int.{ints}
use Rattle.std.specs.Int.{abs_diff}
use Rattle.std.specs.Prelude.{◌≤◌, Option, Some, None, is_some, filter, slice_index, ℤ, pos, ◌+ℤ◌, ◌-ℤ◌, ◌*ℤ◌, ◌<ℤ◌, unsigned_abs, All}
use Rattle.wheel_types.specs.declared.channel.Pol.{Pol}
use Rattle.wheel_types.specs.declared.channel.Keep.{Keep}
use Rattle.wheel_types.specs.declared.channel.Keep.TheVariants.{Rising, Falling, Both}
use Rattle.wheel_types.specs.declared.channel.Channel.{Channel}
use Rattle.wheel_types.specs.declared.parts.WheelParts.{WheelParts}
use Rattle.wheel_types.specs.Wheels.{IsWheel}
use Rattle.wheel_types.specs.Motions.{slots_between}
use Rattle.wheel_types.specs.declared.channel.Channel.TheVariants.{Crank}
use Rattle.wheel_types.proofs.Unrolled.{carried_once}
use Rattle.wheel_types.proofs.Rising.{Ascends, AllBelow, edge_slots-ascend, edge_slots-below, slot_of-rises}
use Rattle.wheel_types.specs.Edges.{below, slot_count, slot_before, edge_at, edge_count, edge_slots, level_of, keep_of, kept, change, pol_to, pol_of, number_of, cycle_of, slot_of}
use Rattle.edge_angles.specs.declared.edges.Edge.{Edge}
use Rattle.edge_angles.specs.EdgeTables.{edge_from, edges_of}

-- a kept edge leads to the level after it
level_to : (keep : Keep) (a b : ℕ) (p : Pol) → kept keep (change a b) ≡ Some p → pol_to b ≡ p
level_to Rising zero zero p e = cc
level_to Rising zero (suc b) p e = cc
level_to Rising (suc a) zero p e = cc
level_to Rising (suc a) (suc b) p e = cc
level_to Falling zero zero p e = cc
level_to Falling zero (suc b) p e = cc
level_to Falling (suc a) zero p e = cc
level_to Falling (suc a) (suc b) p e = cc
level_to Both zero zero p e = cc
level_to Both zero (suc b) p e = cc
level_to Both (suc a) zero p e = cc
level_to Both (suc a) (suc b) p e = cc

-- the kept edges at the starts of the slots below n
abbrev pub edges_below : WheelParts → Channel → ℕ → List Edge
edges_below w c n = map (edge_from w c) (filter (λ k. is_some (edge_at w c k)) (below n))

more : (w : WheelParts) (c : Channel) (n : ℕ) → edges_below w c (n + 1) ≡ edges_below w c n ++ map (edge_from w c) (cond (is_some (edge_at w c n)) (n ∷ []) [])
more w c n =
    let t : ℕ → Bool = λ k. is_some (edge_at w c k) in
    ap (λ k. edges_below w c k) (add-one n)
    ∙ ap (map (edge_from w c)) (filter-append t (below n) (n ∷ []))
    ∙ map-append (edge_from w c) (filter t (below n)) (cond (t n) (n ∷ []) [])

pub none_more : (w : WheelParts) (c : Channel) (n : ℕ) → edge_at w c n ≡ None → edges_below w c (n + 1) ≡ edges_below w c n
none_more w c n e = more w c n ∙ ap (λ (o : Option Pol). edges_below w c n ++ map (edge_from w c) (cond (is_some o) (n ∷ []) [])) e ∙ append-nil (edges_below w c n)

same_edge : (k : ℕ) (p q : Pol) → p ≡ q → ◌≡◌ {A = Edge} (record { slot = k; pol = p }) (record { slot = k; pol = q })
same_edge k p q e = ap (λ (r : Pol). record { slot = k; pol = r }) e

pub some_more : (w : WheelParts) (c : Channel) (n : ℕ) (p : Pol) → edge_at w c n ≡ Some p → edges_below w c (n + 1) ≡ edges_below w c n ++ record { slot = n; pol = p } ∷ []
some_more w c n p e =
    more w c n
    ∙ ap (λ (o : Option Pol). edges_below w c n ++ map (edge_from w c) (cond (is_some o) (n ∷ []) [])) e
    ∙ ap (λ (d : Edge). edges_below w c n ++ d ∷ []) (same_edge n (pol_to (level_of w c n)) p (level_to (keep_of w c) (level_of w c (slot_before w n)) (level_of w c n) p e))

filter_short : (t : ℕ → Bool) (xs : List ℕ) → length (filter t xs) ≤ length xs
filter_short t [] = omega arith
filter_short t (x ∷ xs) =
    let h : length (filter t xs) ≤ length xs = filter_short t xs in
    elim (t x) as (λ b. length (cond b (x ∷ filter t xs) (filter t xs)) ≤ suc (length xs)) [ true ↦ omega (arith, h) | false ↦ omega (arith, h) ]

length-below : (n : ℕ) → length (below n) ≡ n
length-below zero = refl
length-below (suc n) = length-append (below n) (n ∷ []) ∙ omega (arith, length-below n)

-- a channel has no more kept edges than the wheel has slots
pub edge_count-few : (w : WheelParts) (c : Channel) → edge_count w c ≤ slot_count w
edge_count-few w c = omega (arith, filter_short (λ k. is_some (edge_at w c k)) (below (slot_count w)), length-below (slot_count w))

pub few_edges : (w : WheelParts) (c : Channel) → IsWheel w → length (edges_of w c) ≤ 4096
few_edges w c h = omega (arith, edge_count-few w c, length-map (edge_slots w c) (edge_from w c), h.slots.1)

all_below : (n : ℕ) (xs : List ℕ) → AllBelow n xs → All (λ x. x < n) xs
all_below n [] h = All-nil (λ x. x < n)
all_below n (x ∷ xs) h = All-cons (λ x. x < n) x xs h.0 (all_below n xs h.1)

pub edges_within : (w : WheelParts) (c : Channel) → IsWheel w → All (λ (e : Edge). e.slot < 4096) (edges_of w c)
edges_within w c h =
    let few : slot_count w ≤ 4096 = h.slots.1 in
    All-map (λ (e : Edge). e.slot < 4096) (edge_from w c) (edge_slots w c) (All-weaker (λ x. x < slot_count w) (λ x. x < 4096) (λ x k. omega (arith, k, few)) (edge_slots w c) (all_below (slot_count w) (edge_slots w c) (edge_slots-below w c)))

-- what a table of the wheel's edges has at n
pub at_table : (w : WheelParts) (c : Channel) (n : ℕ) (d : Edge) → n < edge_count w c → get_or (edges_of w c) n d ≡ edge_from w c (slice_index (edge_slots w c) n)
at_table w c n d h = get_or-map (edge_from w c) (edge_slots w c) n 0 d h

pub pol_at : (w : WheelParts) (c : Channel) (n : ℕ) (d : Edge) (es : List Edge) → es ≡ edges_of w c → n < length es → (get_or es n d).pol ≡ pol_of w c (pos n)
pol_at w c n d es e h =
    let many : length es ≡ edge_count w c = ap length e ∙ length-map (edge_slots w c) (edge_from w c) in
    let at : n < edge_count w c = omega arith in
    let within : number_of (edge_count w c) (pos n) ≡ n = mod-eq_of_lt at in
    ap (λ (es : List Edge). (get_or es n d).pol) e
    ∙ ap (λ (d : Edge). d.pol) (at_table w c n d at)
    ∙ ap (λ k. pol_to (level_of w c (slice_index (edge_slots w c) k))) (sym within)

-- the slots of the first cycle, and the first one of the next
pub slot_in : (w : WheelParts) (c : Channel) (n : ℕ) → n < edge_count w c → slot_of w c (pos n) ≡ pos (slice_index (edge_slots w c) n)
slot_in w c n h =
    let at : (cycle_of (edge_count w c) (pos n) ≡ pos 0) × (number_of (edge_count w c) (pos n) ≡ n) = carried_once (edge_count w c) (pos n) (pos 0) n h (none (edge_count w c) n) in
    ap (λ k. cycle_of (edge_count w c) (pos n) *ℤ pos (slot_count w) +ℤ pos (slice_index (edge_slots w c) k)) at.1
    ∙ ap (λ k. k *ℤ pos (slot_count w) +ℤ pos (slice_index (edge_slots w c) n)) at.0
    ∙ sym (none (slot_count w) (slice_index (edge_slots w c) n))
  where
    none : (count n : ℕ) → pos n ≡ pos 0 *ℤ pos count +ℤ pos n
    none count n = omega (arith, ints)

pub slot_after : (w : WheelParts) (c : Channel) (n : ℕ) → 0 < edge_count w c → n ≡ edge_count w c → slot_of w c (pos n) ≡ pos (slot_count w + slice_index (edge_slots w c) 0)
slot_after w c n h e =
    let at : (cycle_of (edge_count w c) (pos n) ≡ pos 1) × (number_of (edge_count w c) (pos n) ≡ 0) = carried_once (edge_count w c) (pos n) (pos 1) 0 h (one (edge_count w c) n 0 (omega (arith, e))) in
    ap (λ k. cycle_of (edge_count w c) (pos n) *ℤ pos (slot_count w) +ℤ pos (slice_index (edge_slots w c) k)) at.1
    ∙ ap (λ k. k *ℤ pos (slot_count w) +ℤ pos (slice_index (edge_slots w c) 0)) at.0
    ∙ sym (one (slot_count w) (slot_count w + slice_index (edge_slots w c) 0) (slice_index (edge_slots w c) 0) refl)
  where
    one : (count m n : ℕ) → m ≡ count + n → pos m ≡ pos 1 *ℤ pos count +ℤ pos n
    one count m n e = omega (arith, ints, e)

abs_diff-as : (a b : ℕ) → abs_diff a b ≡ unsigned_abs (pos a -ℤ pos b)
abs_diff-as a b = omega (arith, ints)

-- the gap from slot to slot
pub gap_as : (w : WheelParts) (m n : ℤ) (a b : ℕ) → slot_of w Crank m ≡ pos a → slot_of w Crank n ≡ pos b → abs_diff b a ≡ slots_between w m n
gap_as w m n a b e f = abs_diff-as b a ∙ ap (λ z. unsigned_abs (pos b -ℤ z)) (sym e) ∙ ap (λ z. unsigned_abs (z -ℤ slot_of w Crank m)) (sym f)

at_least : (a : ℕ) (xs : List ℕ) (k : ℕ) → Ascends a xs → k < length xs → a ≤ slice_index xs k
at_least a [] k s h = absurd (omega (arith, h))
at_least a (x ∷ xs) zero s h = s.0
at_least a (x ∷ xs) (suc k) s h =
    let more : x + 1 ≤ slice_index xs k = at_least (x + 1) xs k s.1 (omega (arith, h)) in
    let first : a ≤ x = s.0 in
    omega (arith, more, first)

first_least : (a : ℕ) (xs : List ℕ) (k : ℕ) → Ascends a xs → k < length xs → slice_index xs 0 ≤ slice_index xs k
first_least a [] k s h = absurd (omega (arith, h))
first_least a (x ∷ xs) zero s h = omega arith
first_least a (x ∷ xs) (suc k) s h =
    let more : x + 1 ≤ slice_index xs k = at_least (x + 1) xs k s.1 (omega (arith, h)) in
    omega (arith, more)

-- the slot of an edge is one of the wheel's
pub slot_within : (w : WheelParts) (c : Channel) (n : ℕ) → n < edge_count w c → slice_index (edge_slots w c) n < slot_count w
slot_within w c n h = All-get_or (λ x. x < slot_count w) (edge_slots w c) n 0 h (all_below (slot_count w) (edge_slots w c) (edge_slots-below w c))

pub slot_within_table : (w : WheelParts) (c : Channel) (n : ℕ) (d : Edge) (es : List Edge) → es ≡ edges_of w c → n < length es → (get_or es n d).slot < slot_count w
slot_within_table w c n d es e h =
    let many : length es ≡ edge_count w c = ap length e ∙ length-map (edge_slots w c) (edge_from w c) in
    let at : n < edge_count w c = omega arith in
    let there : (get_or es n d).slot ≡ slice_index (edge_slots w c) n = ap (λ (es : List Edge). (get_or es n d).slot) e ∙ ap (λ (d : Edge). d.slot) (at_table w c n d at) in
    subst (λ k. k < slot_count w) (sym there) (slot_within w c n at)

rises : (a : ℕ) (xs : List ℕ) (m n : ℕ) → Ascends a xs → m < n → n < length xs → slice_index xs m < slice_index xs n
rises a [] m n s h k = absurd (omega (arith, k))
rises a (x ∷ xs) m zero s h k = absurd (omega (arith, h))
rises a (x ∷ xs) zero (suc n) s h k =
    let more : x + 1 ≤ slice_index xs n = at_least (x + 1) xs n s.1 (omega (arith, k)) in
    omega (arith, more)
rises a (x ∷ xs) (suc m) (suc n) s h k = rises (x + 1) xs m n s.1 (omega (arith, h)) (omega (arith, k))

-- of two edges of a channel the later one has the higher slot
pub edge_slots-rise : (w : WheelParts) (c : Channel) (m n : ℕ) → m < n → n < edge_count w c → slice_index (edge_slots w c) m < slice_index (edge_slots w c) n
edge_slots-rise w c m n h k = rises 0 (edge_slots w c) m n (edge_slots-ascend w c) h k

wide : (a b : ℤ) → a <ℤ b → 1 ≤ unsigned_abs (b -ℤ a)
wide a b h = omega (arith, ints, h)

-- a gap has some slots, and no more than the wheel
pub gap_some : (w : WheelParts) (j : ℕ) → 0 < edge_count w Crank → 1 ≤ slots_between w (pos j) (pos (j + 1))
gap_some w j h =
    let next : pos j +ℤ pos 1 ≡ pos (j + 1) = omega (arith, ints) in
    wide _ _ (subst (λ m. slot_of w Crank (pos j) <ℤ slot_of w Crank m) next (slot_of-rises w Crank (pos j) h))

short : (n a b : ℕ) → b ≤ n + a → a ≤ n → abs_diff b a ≤ n
short n a b h k = omega (arith, h, k)

next_or_first : (j count : ℕ) → j < count → (j + 1 < count) ⊎ (j + 1 ≡ count)
next_or_first j count h = grind arith

pub gap_most : (w : WheelParts) (j : ℕ) → j < edge_count w Crank → slots_between w (pos j) (pos (j + 1)) ≤ slot_count w
gap_most w j h = by_cases (next_or_first j (edge_count w Crank) h)
  where
    here : slot_of w Crank (pos j) ≡ pos (slice_index (edge_slots w Crank) j)
    here = slot_in w Crank j h

    low : slice_index (edge_slots w Crank) j < slot_count w
    low = slot_within w Crank j h

    by_cases : (j + 1 < edge_count w Crank) ⊎ (j + 1 ≡ edge_count w Crank) → slots_between w (pos j) (pos (j + 1)) ≤ slot_count w
    by_cases (inl k) =
        let next : slice_index (edge_slots w Crank) (j + 1) < slot_count w = slot_within w Crank (j + 1) k in
        subst (λ n. n ≤ slot_count w) (gap_as w (pos j) (pos (j + 1)) _ _ here (slot_in w Crank (j + 1) k)) (short (slot_count w) (slice_index (edge_slots w Crank) j) (slice_index (edge_slots w Crank) (j + 1)) (omega (arith, next)) (omega (arith, low)))
    by_cases (inr k) =
        let first : slice_index (edge_slots w Crank) 0 ≤ slice_index (edge_slots w Crank) j = first_least 0 (edge_slots w Crank) j (edge_slots-ascend w Crank) h in
        let some : 0 < edge_count w Crank = omega (arith, h) in
        subst (λ n. n ≤ slot_count w) (gap_as w (pos j) (pos (j + 1)) _ _ here (slot_after w Crank (j + 1) some k)) (short (slot_count w) (slice_index (edge_slots w Crank) j) (slot_count w + slice_index (edge_slots w Crank) 0) (omega (arith, first)) (omega (arith, low)))
