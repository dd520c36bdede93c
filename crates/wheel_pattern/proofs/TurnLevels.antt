-- The crank's levels in a turn, by the slot.
use Rattle.std.proofs.Common.{◌≡◌, ℕ, zero, suc, ◌-◌, ◌*◌, ◌%◌, ◌<◌, ◌≤◌, List, [], ◌∷◌, ◌++◌, get_or, ◌≢◌, length, length-append, refl, inl, inr, arith}
use Rattle.std.proofs.lemmas.List.{get_or_append_left, get_or-append_right}
use Rattle.std.specs.List.{repeat}
use Rattle.std.proofs.lemmas.Bool.{cases_Bool}
use Rattle.std.specs.Prelude.{slice_index, ◌==◌}
use Rattle.wheel_pattern.specs.ToothPattern.{slots_of_teeth, turn_levels, crank_levels}

-- the levels of a tooth
abbrev standing_tooth : List ℕ
standing_tooth = 1 ∷ 0 ∷ []

abbrev missing_tooth : List ℕ
missing_tooth = 0 ∷ 0 ∷ []

-- the level of a low tooth is low, and past all of them none is high
low : (missing k : ℕ) → get_or (repeat missing missing_tooth) k 0 ≡ 0
low zero k = refl
low (suc missing) zero = refl
low (suc missing) (suc zero) = refl
low (suc missing) (suc (suc k)) = low missing k

-- at odd slots the level is low
odd : (standing missing k : ℕ) → k % 2 ≡ 1 → get_or (repeat standing standing_tooth ++ repeat missing missing_tooth) k 0 ≡ 0
odd zero missing k h = low missing k
odd (suc standing) missing zero h = absurd (omega arith)
odd (suc standing) missing (suc zero) h = refl
odd (suc standing) missing (suc (suc k)) h = odd standing missing k (omega arith)

-- past the teeth that stand it is low, too
past : (standing missing k : ℕ) → 2 * standing ≤ k → get_or (repeat standing standing_tooth ++ repeat missing missing_tooth) k 0 ≡ 0
past zero missing k h = low missing k
past (suc standing) missing zero h = absurd (omega arith)
past (suc standing) missing (suc zero) h = refl
past (suc standing) missing (suc (suc k)) h = past standing missing k (omega arith)

-- at the even slots of the teeth that stand it is high
even : (standing missing k : ℕ) → k % 2 ≡ 0 → k < 2 * standing → get_or (repeat standing standing_tooth ++ repeat missing missing_tooth) k 0 ≡ 1
even zero missing k h l = absurd (omega arith)
even (suc standing) missing zero h l = refl
even (suc standing) missing (suc zero) h l = absurd (omega arith)
even (suc standing) missing (suc (suc k)) h l = even standing missing k (omega arith) (omega arith)

-- so many pairs are twice as many items
length-pairs : (a b n : ℕ) → length (repeat n (a ∷ b ∷ [])) ≡ 2 * n
length-pairs a b zero = refl
length-pairs a b (suc n) = let h = length-pairs a b n in omega arith

-- a turn has two slots for each tooth
length-turn : (teeth missing : ℕ) → missing < teeth → length (turn_levels teeth missing) ≡ 2 * teeth
length-turn teeth missing h =
    let high = length-pairs 1 0 (teeth - missing) in
    let low = length-pairs 0 0 missing in
    rw (length-append (repeat (teeth - missing) standing_tooth) (repeat missing missing_tooth)) (omega (arith, high, low))

-- an even slot of a tooth that stands is high
pub high_in_turn : (teeth missing k : ℕ) → missing < teeth → k % 2 ≡ 0 → k < 2 * (teeth - missing) → slice_index (turn_levels teeth missing) k ≡ 1
high_in_turn teeth missing k h e l = even (teeth - missing) missing k e l

-- an odd slot of it is low
pub low_at_odd : (teeth missing k : ℕ) → k % 2 ≢ 0 → slice_index (turn_levels teeth missing) k ≡ 0
low_at_odd teeth missing k h = odd (teeth - missing) missing k (omega arith)

-- and so is each slot of a missing tooth
pub low_past : (teeth missing k : ℕ) → 2 * (teeth - missing) ≤ k → slice_index (turn_levels teeth missing) k ≡ 0
low_past teeth missing k h = past (teeth - missing) missing k h

-- the cycle's levels in its first turn are those of the turn
pub first_turn : (degrees teeth missing k : ℕ) → missing < teeth → k < 2 * teeth
    → slice_index (crank_levels degrees teeth missing) k ≡ slice_index (turn_levels teeth missing) k
first_turn degrees teeth missing k h l = elim (cases_Bool (degrees == 720)) [
  | inl two ↦ let n = length-turn teeth missing h in let inside : k < length (turn_levels teeth missing) = omega arith in
      rw two (get_or_append_left (turn_levels teeth missing) (turn_levels teeth missing) 0 k inside)
  | inr one ↦ rw one refl
]

-- and those in its second turn are the same again
pub second_turn : (degrees teeth missing k : ℕ) → missing < teeth → 2 * teeth ≤ k → k < slots_of_teeth degrees teeth
    → slice_index (crank_levels degrees teeth missing) k ≡ slice_index (turn_levels teeth missing) (k - 2 * teeth)
second_turn degrees teeth missing k h p l = elim (cases_Bool (degrees == 720)) [
  | inl two ↦ rw two (get_or-append_right (turn_levels teeth missing) (turn_levels teeth missing) (2 * teeth) k 0 (length-turn teeth missing h) p)
  | inr one ↦ let inside = rw one at l in absurd (omega arith)
]
