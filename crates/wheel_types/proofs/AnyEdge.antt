-- Whether a channel has a kept edge, by a look at each slot.
use Rattle.std.proofs.Common.{◌≡◌, ℕ, zero, suc, ◌+◌, ◌/◌, ◌%◌, ◌<◌, ◌≤◌, ◌⊎◌, inl, inr, Bool, true, false, cond, List, [], ◌∷◌, ◌++◌, length, sym, ◌∙◌, ap, subst, arith, length-append, add-one}
use Rattle.std.specs.Prelude.{slice_index, filter, is_some}
use Rattle.std.proofs.lemmas.List.Elements.{filter-append}
use Rattle.wheel_types.specs.declared.channel.Channel.TheVariants.{Crank}
use Rattle.wheel_types.specs.declared.parts.WheelParts.{WheelParts}
use Rattle.wheel_types.specs.Edges.{below, slot_before, change, kept, edge_at, edge_count, slot_count}

-- the numbers below n that pass, and n where it passes
filter_below : (p : ℕ → Bool) (n : ℕ) → filter p (below (suc n)) ≡ filter p (below n) ++ filter p (n ∷ [])
filter_below p n = filter-append p (below n) (n ∷ [])

none_more_at : (xs ys : List ℕ) (n : ℕ) (b : Bool) → ys ≡ xs ++ cond b (n ∷ []) [] → xs ≡ [] → b ≡ false → ys ≡ []
none_more_at xs ys n b e none f = rw (e, none, f)

pub none_more : (p : ℕ → Bool) (n : ℕ) → filter p (below n) ≡ [] → p n ≡ false → filter p (below (suc n)) ≡ []
none_more p n none f = none_more_at (filter p (below n)) (filter p (below (suc n))) n (p n) (filter_below p n) none f

some_at : (xs ys : List ℕ) (n : ℕ) (b : Bool) → ys ≡ xs ++ cond b (n ∷ []) [] → (1 ≤ length xs) ⊎ (b ≡ true) → 1 ≤ length ys
some_at xs ys n b e (inl h) = rw e (simp length-append (omega arith))
some_at xs ys n b e (inr h) = rw (e, h) (simp length-append (omega arith))

last_or_before : (k n : ℕ) → k < suc n → (k < n) ⊎ (k ≡ n)
last_or_before k n h = grind arith

passes_by_last : (p : ℕ → Bool) (k n : ℕ) → p k ≡ true → (k < n → 1 ≤ length (filter p (below n))) → (k < n) ⊎ (k ≡ n) → 1 ≤ length (filter p (below (suc n)))
passes_by_last p k n t before (inl h) = some_at (filter p (below n)) (filter p (below (suc n))) n (p n) (filter_below p n) (inl (before h))
passes_by_last p k n t before (inr e) = some_at (filter p (below n)) (filter p (below (suc n))) n (p n) (filter_below p n) (inr (subst (λ m. p m ≡ true) e t))

-- one number that passes is enough
pub some_passes : (p : ℕ → Bool) (k n : ℕ) → k < n → p k ≡ true → 1 ≤ length (filter p (below n))
some_passes p k zero h t = absurd (omega (arith, h))
some_passes p k (suc n) h t = passes_by_last p k n t (λ before. some_passes p k n before t) (last_or_before k n h)

low_bit : (n : ℕ) → n / 1 % 2 ≡ n % 2
low_bit n = omega arith

-- the test of a slot, by the values of it and of the slot before
pub edge_by_values : (w : WheelParts) (k b v : ℕ) → b ≡ slice_index w.slots (slot_before w k) → v ≡ slice_index w.slots k → is_some (kept w.crank (change (b % 2) (v % 2))) ≡ is_some (edge_at w Crank k)
edge_by_values w k b v e f =
    ap (λ x. is_some (kept w.crank (change x (v % 2)))) (ap (λ n. n % 2) e ∙ sym (low_bit (slice_index w.slots (slot_before w k))))
    ∙ ap (λ x. is_some (kept w.crank (change (slice_index w.slots (slot_before w k) / 1 % 2) x))) (ap (λ n. n % 2) f ∙ sym (low_bit (slice_index w.slots k)))

-- a look at slot k that finds an edge
pub found : (w : WheelParts) (slots : List ℕ) (k b : ℕ) → slots ≡ w.slots → b ≡ slice_index w.slots (slot_before w k) → k < length slots → is_some (kept w.crank (change (b % 2) (slice_index slots k % 2))) ≡ true → 1 ≤ edge_count w Crank
found w slots k b same last h t = some_passes (λ n. is_some (edge_at w Crank n)) k (slot_count w) (subst (λ l. k < length l) same h) (sym (edge_by_values w k b (slice_index slots k) last (ap (λ l. slice_index l k) same)) ∙ t)

-- a look at slot k that finds none
pub not_found : (w : WheelParts) (slots : List ℕ) (k b : ℕ) → slots ≡ w.slots → b ≡ slice_index w.slots (slot_before w k) → is_some (kept w.crank (change (b % 2) (slice_index slots k % 2))) ≡ false → filter (λ n. is_some (edge_at w Crank n)) (below k) ≡ [] → filter (λ n. is_some (edge_at w Crank n)) (below (k + 1)) ≡ []
not_found w slots k b same last t none = rw add-one (none_more (λ n. is_some (edge_at w Crank n)) k none (sym (edge_by_values w k b (slice_index slots k) last (ap (λ l. slice_index l k) same)) ∙ t))

pub last_read : (w : WheelParts) (slots : List ℕ) (k : ℕ) → slots ≡ w.slots → slice_index slots k ≡ slice_index w.slots (slot_before w (k + 1))
last_read w slots k same = rw add-one (ap (λ l. slice_index l k) same)

none_in : (w : WheelParts) (slots : List ℕ) (k : ℕ) → slots ≡ w.slots → length slots ≤ k → k ≤ length slots → k ≡ slot_count w
none_in w slots k same h g = let e : length slots ≡ length w.slots = ap (length {A = ℕ}) same in omega arith

-- no slot has an edge
pub none_found : (w : WheelParts) (slots : List ℕ) (k : ℕ) → slots ≡ w.slots → length slots ≤ k → k ≤ length slots → filter (λ n. is_some (edge_at w Crank n)) (below k) ≡ [] → 1 ≤ edge_count w Crank → ⊥
none_found w slots k same h g none some =
    let e : edge_count w Crank ≡ 0 = ap (λ n. length (filter (λ m. is_some (edge_at w Crank m)) (below n))) (sym (none_in w slots k same h g)) ∙ ap (length {A = ℕ}) none in
    omega arith
