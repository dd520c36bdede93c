-- A channel that keeps both polarities has them in turn.
use Rattle.std.proofs.Common.{◌≡◌, ℕ, zero, suc, ◌+◌, ◌-◌, ◌<◌, ◌≤◌, ◌⊎◌, inl, inr, Bool, true, false, cond, List, [], ◌∷◌, ◌++◌, refl, sym, ◌∙◌, ap, subst, arith, ℤ, pos, ◌+ℤ◌, ◌*ℤ◌}
use Rattle.std.proofs.lemmas.Int.{ints}
use Rattle.std.specs.Prelude.{Option, Some, None, Contains, is_some, filter, slice_index}
use Rattle.std.proofs.lemmas.List.Elements.{Contains-append_left, Contains-append_right, Contains-append_cases, Contains-push, Contains-push_cases}
use Rattle.wheel_types.specs.declared.channel.Pol.{Pol}
use Rattle.wheel_types.specs.declared.channel.Keep.TheVariants.{Both}
use Rattle.wheel_types.specs.declared.channel.Channel.{Channel}
use Rattle.wheel_types.specs.declared.parts.WheelParts.{WheelParts}
use Rattle.wheel_types.specs.Edges.{below, slot_count, slot_before, edge_at, edge_count, edge_slots, level_of, keep_of, kept, change, pol_to, pol_of, number_of, cycle_of}
use Rattle.wheel_types.proofs.Unrolled.{carried, carried_once, number_below, distribute}
use Rattle.stimulus.specs.Laws.{other, PolaritiesAlternate}
use Rattle.edge_angles.proofs.Tables.{edge_slots-rise, slot_within}

-- ---- slots of the list are those of edges

contains_here : (v : ℕ) (vs : List ℕ) → Contains (v ∷ vs) v
contains_here v vs = Contains-append_left (v ∷ []) vs v (Contains-push [] v)

none_in : (u : ℕ) → Contains [] u → ⊥
none_in u h = absurd (omega (arith, h.1))

contains_cases : (u v : ℕ) (vs : List ℕ) → Contains (v ∷ vs) u → (v ≡ u) ⊎ Contains vs u
contains_cases u v vs h = by (Contains-append_cases (v ∷ []) vs u h)
  where
    only : Contains [] u ⊎ (v ≡ u) → v ≡ u
    only (inl a) = absurd (none_in u a)
    only (inr e) = e

    by : Contains (v ∷ []) u ⊎ Contains vs u → (v ≡ u) ⊎ Contains vs u
    by (inl a) = inl (only (Contains-push_cases [] v u a))
    by (inr a) = inr a

split : (k n : ℕ) → k < suc n → (k < n) ⊎ (k ≡ n)
split k n h = grind arith

in_below : (k n : ℕ) → k < n → Contains (below n) k
in_below k zero h = absurd (omega (arith, h))
in_below k (suc n) h = by (split k n h) (λ l. in_below k n l)
  where
    by : (k < n) ⊎ (k ≡ n) → (k < n → Contains (below n) k) → Contains (below (suc n)) k
    by (inl l) more = Contains-append_left (below n) (n ∷ []) k (more l)
    by (inr e) more = subst (λ m. Contains (below n ++ n ∷ []) m) (sym e) (Contains-push (below n) n)

kept_in : (p : ℕ → Bool) (k : ℕ) (xs : List ℕ) → p k ≡ true → Contains xs k → Contains (filter p xs) k
kept_in p k [] h c = absurd (none_in k c)
kept_in p k (x ∷ xs) h c = by (contains_cases k x xs c) (λ d. kept_in p k xs h d)
  where
    more : (b : Bool) → Contains (filter p xs) k → Contains (cond b (x ∷ filter p xs) (filter p xs)) k
    more true d = Contains-append_right (x ∷ []) (filter p xs) k d
    more false d = d

    by : (x ≡ k) ⊎ Contains xs k → (Contains xs k → Contains (filter p xs) k) → Contains (filter p (x ∷ xs)) k
    by (inl e) rest = subst (λ b. Contains (cond b (x ∷ filter p xs) (filter p xs)) k) (sym (ap p e ∙ h)) (subst (λ m. Contains (x ∷ filter p xs) m) e (contains_here x (filter p xs)))
    by (inr d) rest = more (p x) (rest d)

pub passes : (p : ℕ → Bool) (k : ℕ) (xs : List ℕ) → Contains (filter p xs) k → p k ≡ true
passes p k [] c = absurd (none_in k c)
passes p k (x ∷ xs) c = by (p x) refl c (λ d. passes p k xs d)
  where
    by : (b : Bool) → p x ≡ b → Contains (cond b (x ∷ filter p xs) (filter p xs)) k → (Contains (filter p xs) k → p k ≡ true) → p k ≡ true
    by false e d rest = rest d
    by true e d rest = first (contains_cases k x (filter p xs) d)
      where
        first : (x ≡ k) ⊎ Contains (filter p xs) k → p k ≡ true
        first (inl f) = ap p (sym f) ∙ e
        first (inr f) = rest f

-- ---- levels between edges

-- the polarity to the level of a slot
abbrev to : WheelParts → Channel → ℕ → Pol
to w c k = pol_to (level_of w c k)

flat : (a b : ℕ) → kept Both (change a b) ≡ None → pol_to b ≡ pol_to a
flat zero zero e = refl
flat zero (suc b) e = cc
flat (suc a) zero e = cc
flat (suc a) (suc b) e = refl

steep : (a b : ℕ) (p : Pol) → kept Both (change a b) ≡ Some p → pol_to b ≡ other (pol_to a)
steep zero zero p e = cc
steep zero (suc b) p e = refl
steep (suc a) zero p e = refl
steep (suc a) (suc b) p e = cc

some_or_none : (o : Option Pol) → (o ≡ None) ⊎ ((p : Pol) × (o ≡ Some p))
some_or_none None = inl refl
some_or_none (Some p) = inr (p, refl)

-- no edge of the list is at the slot
abbrev IsFree : WheelParts → Channel → ℕ → Type 0
IsFree w c k = Contains (edge_slots w c) k → ⊥

free_flat : (w : WheelParts) (c : Channel) (k : ℕ) → keep_of w c ≡ Both → k < slot_count w → IsFree w c k → to w c k ≡ to w c (slot_before w k)
free_flat w c k both h free = by (some_or_none (edge_at w c k))
  where
    by : (edge_at w c k ≡ None) ⊎ ((p : Pol) × (edge_at w c k ≡ Some p)) → to w c k ≡ to w c (slot_before w k)
    by (inl e) = flat (level_of w c (slot_before w k)) (level_of w c k) (subst (λ m. kept m (change (level_of w c (slot_before w k)) (level_of w c k)) ≡ None) both e)
    by (inr s) = absurd (free (kept_in (λ j. is_some (edge_at w c j)) k (below (slot_count w)) (ap is_some s.1) (in_below k (slot_count w) h)))

pub is_some-of : (o : Option Pol) → is_some o ≡ true → (p : Pol) × (o ≡ Some p)
is_some-of None h = cc
is_some-of (Some p) h = (p, refl)

edge_steep : (w : WheelParts) (c : Channel) (k : ℕ) → keep_of w c ≡ Both → Contains (edge_slots w c) k → to w c k ≡ other (to w c (slot_before w k))
edge_steep w c k both h =
    let s = is_some-of (edge_at w c k) (passes (λ j. is_some (edge_at w c j)) k (below (slot_count w)) h) in
    steep (level_of w c (slot_before w k)) (level_of w c k) s.0 (subst (λ m. kept m (change (level_of w c (slot_before w k)) (level_of w c k)) ≡ Some s.0) both s.1)

-- over slots without an edge the level stays
stays : (w : WheelParts) (c : Channel) (a n : ℕ) → keep_of w c ≡ Both → a + n < slot_count w → ((k : ℕ) → a < k → k ≤ a + n → IsFree w c k) → to w c (a + n) ≡ to w c a
stays w c a zero both h free = ap (to w c) (none a)
  where
    none : (a : ℕ) → a + 0 ≡ a
    none a = omega arith
stays w c a (suc n) both h free =
    ap (to w c) (one a n) ∙ free_flat w c (suc (a + n)) both (omega (arith, h)) (free (suc (a + n)) (omega arith) (omega arith)) ∙ stays w c a n both (omega (arith, h)) (λ k l m. free k l (omega (arith, m)))
  where
    one : (a n : ℕ) → a + suc n ≡ suc (a + n)
    one a n = omega arith

-- ---- from an edge to the next of its cycle

abbrev slot : WheelParts → Channel → ℕ → ℕ
slot w c r = slice_index (edge_slots w c) r

at_most : (w : WheelParts) (c : Channel) (m n : ℕ) → (m < n) ⊎ (m ≡ n) → n < edge_count w c → slot w c m ≤ slot w c n
at_most w c m n (inl h) k = let l = edge_slots-rise w c m n h k in omega (arith, l)
at_most w c m n (inr e) k = subst (λ j. slot w c m ≤ slot w c j) e (omega arith)

pub in_slots : (w : WheelParts) (c : Channel) (r : ℕ) → r < edge_count w c → Contains (edge_slots w c) (slot w c r)
in_slots w c r h = Rattle.std.proofs.lemmas.List.Elements.Contains-get_or (edge_slots w c) r 0 h

which : (w : WheelParts) (c : Channel) (k : ℕ) → Contains (edge_slots w c) k → (q : ℕ) × ((q < edge_count w c) × (slot w c q ≡ k))
which w c k h = (h.0, (h.1, Rattle.std.proofs.lemmas.List.get_or_default (edge_slots w c) h.0 0 k h.1 ∙ h.2))

three : (q r : ℕ) → (q < r) ⊎ ((q ≡ r) ⊎ ((q ≡ suc r) ⊎ (suc r < q)))
three q r = grind arith

free_between : (w : WheelParts) (c : Channel) (r k : ℕ) → suc r < edge_count w c → slot w c r < k → k < slot w c (suc r) → IsFree w c k
free_between w c r k h low high found = by (which w c k found)
  where
    by : (q : ℕ) × ((q < edge_count w c) × (slot w c q ≡ k)) → ⊥
    by f = cases (three f.0 r)
      where
        cases : (f.0 < r) ⊎ ((f.0 ≡ r) ⊎ ((f.0 ≡ suc r) ⊎ (suc r < f.0))) → ⊥
        cases (inl l) = let m = at_most w c f.0 r (inl l) (omega (arith, h)) in let e = f.1.1 in absurd (omega (arith, m, e, low))
        cases (inr (inl l)) = let m = at_most w c f.0 r (inr l) (omega (arith, h)) in let e = f.1.1 in absurd (omega (arith, m, e, low))
        cases (inr (inr (inl l))) = let m = at_most w c (suc r) f.0 (inr (sym l)) f.1.0 in let e = f.1.1 in absurd (omega (arith, m, e, high))
        cases (inr (inr (inr l))) = let m = at_most w c (suc r) f.0 (inl l) f.1.0 in let e = f.1.1 in absurd (omega (arith, m, e, high))

pub alternate_within : (w : WheelParts) (c : Channel) (r : ℕ) → keep_of w c ≡ Both → suc r < edge_count w c → to w c (slot w c (suc r)) ≡ other (to w c (slot w c r))
alternate_within w c r both h =
    let a = slot w c r in
    let b = slot w c (suc r) in
    let rise : a < b = edge_slots-rise w c r (suc r) (omega arith) h in
    let within : b < slot_count w = slot_within w c (suc r) h in
    let n = b - 1 - a in
    let before : slot_before w b ≡ a + n = back b rise in
    let same : to w c (a + n) ≡ to w c a = stays w c a n both (omega (arith, rise, within)) (λ k l m. free_between w c r k h l (omega (arith, m, rise))) in
    edge_steep w c b both (in_slots w c (suc r) h) ∙ ap (λ k. other (to w c k)) before ∙ ap other same
  where
    back : (b : ℕ) → slot w c r < b → slot_before w b ≡ slot w c r + (b - 1 - slot w c r)
    back zero l = absurd (omega (arith, l))
    back (suc b) l = omega (arith, l)

-- ---- from the last edge of a cycle to the first of the next

free_after : (w : WheelParts) (c : Channel) (r k : ℕ) → suc r ≡ edge_count w c → slot w c r < k → IsFree w c k
free_after w c r k last low found = by (which w c k found)
  where
    below_or_at : (q : ℕ) → q < suc r → (q < r) ⊎ (q ≡ r)
    below_or_at q h = split q r h

    by : (q : ℕ) × ((q < edge_count w c) × (slot w c q ≡ k)) → ⊥
    by f = let e = f.1.1 in let l = f.1.0 in let m = at_most w c f.0 r (below_or_at f.0 (omega (arith, l, last))) (omega (arith, last)) in absurd (omega (arith, m, e, low))

zero_or_more : (q : ℕ) → (0 < q) ⊎ (0 ≡ q)
zero_or_more q = grind arith

free_before : (w : WheelParts) (c : Channel) (k : ℕ) → k < slot w c 0 → IsFree w c k
free_before w c k high found = by (which w c k found)
  where
    by : (q : ℕ) × ((q < edge_count w c) × (slot w c q ≡ k)) → ⊥
    by f = let e = f.1.1 in let m = at_most w c 0 f.0 (zero_or_more f.0) f.1.0 in absurd (omega (arith, m, e, high))

at_end : (w : WheelParts) (c : Channel) (r : ℕ) → keep_of w c ≡ Both → suc r ≡ edge_count w c → to w c (slot_count w - 1) ≡ to w c (slot w c r)
at_end w c r both last =
    let a = slot w c r in
    let within : a < slot_count w = slot_within w c r (omega (arith, last)) in
    let n = slot_count w - 1 - a in
    let e : a + n ≡ slot_count w - 1 = omega (arith, within) in
    ap (to w c) (sym e) ∙ stays w c a n both (omega (arith, within)) (λ k l m. free_after w c r k last l)

before_first : (w : WheelParts) (c : Channel) (b : ℕ) → keep_of w c ≡ Both → 0 < edge_count w c → slot w c 0 ≡ b → to w c (slot_before w b) ≡ to w c (slot_count w - 1)
before_first w c zero both some e = refl
before_first w c (suc b) both some e =
    let within : slot w c 0 < slot_count w = slot_within w c 0 some in
    let first : to w c 0 ≡ to w c (slot_count w - 1) = free_flat w c 0 both (omega (arith, within)) (free_before w c 0 (omega (arith, e))) in
    ap (to w c) (zero_plus b) ∙ stays w c 0 b both (omega (arith, within, e)) (λ k l m. free_before w c k (omega (arith, m, e))) ∙ first
  where
    zero_plus : (b : ℕ) → b ≡ 0 + b
    zero_plus b = omega arith

pub alternate_across : (w : WheelParts) (c : Channel) (r : ℕ) → keep_of w c ≡ Both → suc r ≡ edge_count w c → to w c (slot w c 0) ≡ other (to w c (slot w c r))
alternate_across w c r both last =
    edge_steep w c (slot w c 0) both (in_slots w c 0 (omega (arith, last))) ∙ ap other (before_first w c (slot w c 0) both (omega (arith, last)) refl ∙ at_end w c r both last)

-- ---- over all cycles

next_in : (m z : ℤ) (r : ℕ) → m ≡ z +ℤ pos r → m +ℤ pos 1 ≡ z +ℤ pos (suc r)
next_in m z r e = omega (arith, ints, e)

one_cycle_on : (q : ℤ) (n : ℕ) → (q +ℤ pos 1) *ℤ pos n ≡ q *ℤ pos n +ℤ pos n
one_cycle_on q n =
    let one : pos 1 *ℤ pos n ≡ pos n = omega (arith, ints) in
    distribute q (pos 1) n ∙ ap (λ z. q *ℤ pos n +ℤ z) one

within_or_last : (r n : ℕ) → r < n → (suc r < n) ⊎ (suc r ≡ n)
within_or_last r n h = grind arith

-- the polarity of the next edge is the other
pub alternate : PolaritiesAlternate
alternate w c m both some = by (within_or_last (number_of (edge_count w c) m) (edge_count w c) (number_below (edge_count w c) m some))
  where
    by : (suc (number_of (edge_count w c) m) < edge_count w c) ⊎ (suc (number_of (edge_count w c) m) ≡ edge_count w c) → pol_of w c (m +ℤ pos 1) ≡ other (pol_of w c m)
    by (inl h) =
        let r = number_of (edge_count w c) m in
        let q = cycle_of (edge_count w c) m in
        let next = (carried_once (edge_count w c) (m +ℤ pos 1) q (suc r) h (next_in m (q *ℤ pos (edge_count w c)) r (carried (edge_count w c) m some))).1 in
        ap (λ n. to w c (slot w c n)) next ∙ alternate_within w c r both h
    by (inr e) =
        let r = number_of (edge_count w c) m in
        let q = cycle_of (edge_count w c) m in
        let turn = on m (q *ℤ pos (edge_count w c)) ((q +ℤ pos 1) *ℤ pos (edge_count w c)) r (edge_count w c) e (carried (edge_count w c) m some) (one_cycle_on q (edge_count w c)) in
        let next = (carried_once (edge_count w c) (m +ℤ pos 1) (q +ℤ pos 1) 0 some turn).1 in
        ap (λ n. to w c (slot w c n)) next ∙ alternate_across w c r both e
      where
        on : (m a b : ℤ) (r n : ℕ) → suc r ≡ n → m ≡ a +ℤ pos r → b ≡ a +ℤ pos n → m +ℤ pos 1 ≡ b +ℤ pos 0
        on m a b r n last e f = omega (arith, ints, e, f, last)
