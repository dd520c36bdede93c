-- Eight bytes that are the number 0, as four numbers of two bytes.
use Rattle.std.proofs.Common.{◌≡◌, ℕ, zero, suc, ◌+◌, ◌-◌, ◌*◌, ◌<◌, ◌≤◌, ◌/◌, List, drop, slice_index, refl, sym, ap, ◌∙◌, arith, inl, inr}
use Rattle.std.proofs.Math.Nat.{div-add-mod', mod-lt}
use Rattle.std.proofs.lemmas.Bool.{cases_lt}
use Rattle.std.proofs.lemmas.List.{get_or-drop}
use Rattle.byteorder.specs.Endian.{little_from}
use Rattle.image_layout.specs.Layout.{number_at}

byte_moved : (xs : List ℕ) (i j : ℕ) → j ≡ i → slice_index xs i ≡ 0 → slice_index xs j ≡ 0
byte_moved xs i j e h = ap (λ (k : ℕ). slice_index xs k) e ∙ h

-- a number is 0 exactly where its bytes are
bytes_of_zero : (n i : ℕ) (xs : List ℕ) → little_from i n xs ≡ 0 → (j : ℕ) → i ≤ j → j < i + n → slice_index xs j ≡ 0
bytes_of_zero zero i xs e j from to = absurd (omega (arith, from, to))
bytes_of_zero (suc n) i xs e j from to =
    elim (cases_lt i j) [
      | inl later ↦ bytes_of_zero n (suc i) xs (omega (arith, e)) j (omega (arith, later)) (omega (arith, to))
      | inr first ↦ byte_moved xs i j (omega (arith, from, first)) (omega (arith, e))
    ]

zero_of_bytes : (n i : ℕ) (xs : List ℕ) → ((j : ℕ) → i ≤ j → j < i + n → slice_index xs j ≡ 0) → little_from i n xs ≡ 0
zero_of_bytes zero i xs h = refl
zero_of_bytes (suc n) i xs h =
    let first = h i (omega arith) (omega arith) in
    let rest = zero_of_bytes n (suc i) xs (λ j from to. h j (omega (arith, from)) (omega (arith, to))) in
    omega (arith, first, rest)

-- the same of a number at a place, by the bytes of all
byte_at_zero : (n : ℕ) (b : List ℕ) (at : ℕ) → number_at n b at ≡ 0 → (j : ℕ) → at ≤ j → j < at + n → slice_index b j ≡ 0
unfolding number_at
byte_at_zero n b at e j from to =
    byte_moved b (at + (j - at)) j (omega (arith, from)) (sym (get_or-drop at b (j - at) 0) ∙ bytes_of_zero n 0 (drop at b) e (j - at) (omega arith) (omega (arith, from, to)))

zero_at_bytes : (n : ℕ) (b : List ℕ) (at : ℕ) → ((j : ℕ) → at ≤ j → j < at + n → slice_index b j ≡ 0) → number_at n b at ≡ 0
unfolding number_at
zero_at_bytes n b at h =
    zero_of_bytes n 0 (drop at b) (λ j from to. get_or-drop at b j 0 ∙ h (at + j) (omega arith) (omega (arith, to)))

-- eight bytes are 0 exactly where the four numbers of two bytes in them are
pub four_of_zero : (b : List ℕ) (at : ℕ) → number_at 8 b at ≡ 0 → (k : ℕ) → k < 4 → number_at 2 b (at + 2 * k) ≡ 0
four_of_zero b at e k lt =
    zero_at_bytes 2 b (at + 2 * k) (λ j from to. byte_at_zero 8 b at e j (omega (arith, from)) (omega (arith, to, lt)))

pub zero_of_four : (b : List ℕ) (at : ℕ) → ((k : ℕ) → k < 4 → number_at 2 b (at + 2 * k) ≡ 0) → number_at 8 b at ≡ 0
zero_of_four b at h =
    zero_at_bytes 8 b at (λ j from to.
    let split = div-add-mod' (j - at) 2 in
    let low = mod-lt (j - at) {m = 2} (omega arith) in
    byte_at_zero 2 b (at + 2 * ((j - at) / 2)) (h ((j - at) / 2) (omega (arith, split, to, from)))
    j (omega (arith, split, from)) (omega (arith, split, low, from)))
