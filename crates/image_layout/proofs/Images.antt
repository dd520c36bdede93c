-- What is known of the fields of an image that breaks no rule.
use Rattle.std.proofs.Common.{◌≡◌, ℕ, zero, suc, ◌+◌, ◌-◌, ◌*◌, ◌<◌, ◌≤◌, List, Option, None, Some, true, refl, sym, ◌∙◌, arith, inl, inr, eqb-true}
use Rattle.std.specs.Prelude.{IsNone}
use Rattle.std.proofs.lemmas.Bool.{and_parts, or_cases, leb-true, ltb-true}
use Rattle.std.proofs.Math.Nat.{lt_of_mul-lt-mul_left, mul-lt-mul_of_pos_left, mul-le-mul_left}
use Rattle.image_layout.specs.declared.fault.ImageFault.{ImageFault}
use Rattle.image_layout.specs.Layout.{state_total, row_width, time_total, ratio_total}
use Rattle.image_layout.specs.Fields.{entry_at, time_cut_at, ratio_top_at, ratio_bottom_at}
use Rattle.image_layout.specs.ListRules.{time_cuts_fault, time_cut_fault, ratio_cuts_fault, ratio_cut_fault}
use Rattle.image_layout.specs.StateRules.{rows_fault, entry_fault, is_entry}
use Rattle.image_layout.specs.Rules.{IsImage, first_fault, sections_fault}
use Rattle.image_layout.specs.Keeps.{AreCounts}
use Rattle.image_layout.proofs.Firsts.{first_none_head, first_none_tail, first_from_each, unless_none}
use Rattle.image_layout.proofs.RowNumbers.{row_below, entry_fault_at}

pub no_fault : (o : Option ImageFault) → IsNone o → o ≡ None
no_fault None h = refl
no_fault (Some f) h = cc

pub sections_kept : (b : List ℕ) → IsImage b → sections_fault b ≡ None
unfolding first_fault
sections_kept b h = first_none_head _ _ (first_none_tail _ _ (no_fault _ h))

pub rows_kept : (b : List ℕ) → IsImage b → rows_fault b ≡ None
unfolding sections_fault
rows_kept b h = first_none_head _ _ (first_none_tail _ _ (first_none_tail _ _ (first_none_tail _ _ (first_none_tail _ _ (first_none_tail _ _ (first_none_tail _ _ (sections_kept b h)))))))

pub time_cuts_kept : (b : List ℕ) → IsImage b → time_cuts_fault b ≡ None
unfolding sections_fault
time_cuts_kept b h = first_none_head _ _ (first_none_tail _ _ (first_none_tail _ _ (sections_kept b h)))

pub entry_kept : (b : List ℕ) → IsImage b → (q c : ℕ) → q < state_total b → c < row_width b → is_entry b q c (entry_at b q c) ≡ true
unfolding rows_fault
entry_kept b h q c there column =
    let below = row_below q c (row_width b) (row_width b) (state_total b) refl there column in
    let none = first_from_each 0 (state_total b * row_width b) (entry_fault b) (first_none_head _ _ (rows_kept b h)) (q * row_width b + c) (omega arith) (omega (arith, below)) in
    unless_none _ _ (sym (entry_fault_at b q c column) ∙ none)

pub entry_below : (b : List ℕ) → IsImage b → AreCounts b → (q c : ℕ) → q < state_total b → c < row_width b → entry_at b q c < state_total b
entry_below b h counts q c there column =
    elim (or_cases _ _ (entry_kept b h q c there column)) [
      | inl none ↦ let e = eqb-true (entry_at b q c) 0 none in let two = counts.states.0 in omega (arith, e, two)
      | inr parts ↦ ltb-true _ _ (and_parts _ _ (and_parts _ _ parts).0).1
    ]

-- the time cuts rise
pub time_cut_rises : (b : List ℕ) → IsImage b → (k : ℕ) → k + 1 < time_total b → time_cut_at b k < time_cut_at b (k + 1)
unfolding time_cuts_fault
time_cut_rises b h k there =
    let none = first_from_each 0 (time_total b) (time_cut_fault b) (time_cuts_kept b h) (k + 1) (omega arith) (omega arith) in
    let order = unless_none _ _ (first_none_head _ _ (first_none_tail _ _ none)) in
    elim (or_cases _ _ order) [
      | inl first ↦ absurd (let e = eqb-true (k + 1) 0 first in omega (arith, e))
      | inr rises ↦ let same : k + 1 - 1 ≡ k = omega arith in ltb-true _ _ (rw same at rises)
    ]

pub time_cuts_rise : (b : List ℕ) → IsImage b → (i j : ℕ) → i + j < time_total b → time_cut_at b i ≤ time_cut_at b (i + j)
time_cuts_rise b h i zero there = let e : i + 0 ≡ i = omega arith in rw e (omega arith)
time_cuts_rise b h i (suc j) there =
    let before = time_cuts_rise b h i j (omega arith) in
    let step = time_cut_rises b h (i + j) (omega arith) in
    let e : i + suc j ≡ (i + j) + 1 = omega arith in
    rw e (omega (arith, before, step))

pub time_cut_before : (b : List ℕ) → IsImage b → (i j : ℕ) → i ≤ j → j < time_total b → time_cut_at b i ≤ time_cut_at b j
time_cut_before b h i j order there =
    let e : i + (j - i) ≡ j = omega arith in
    rw e at (time_cuts_rise b h i (j - i) (omega arith))

-- a / b is at most x / xb, which is below y / yb
pub below_then : (a b x xb y yb : ℕ) → 1 ≤ b → a * xb ≤ x * b → x * yb < y * xb → a * yb < y * b
below_then a b x xb y yb some h k =
    let first : yb * (a * xb) ≤ yb * (x * b) = mul-le-mul_left yb h in
    let second : b * (x * yb) < b * (y * xb) = mul-lt-mul_of_pos_left k some in
    let both : xb * (a * yb) < xb * (y * b) = omega (arith, first, second) in
    lt_of_mul-lt-mul_left xb both

-- a / b is below x / xb, which is at most y / yb
pub then_below : (a b x xb y yb : ℕ) → 1 ≤ yb → a * xb < x * b → x * yb ≤ y * xb → a * yb < y * b
then_below a b x xb y yb some h k =
    let first : yb * (a * xb) < yb * (x * b) = mul-lt-mul_of_pos_left h some in
    let second : b * (x * yb) ≤ b * (y * xb) = mul-le-mul_left b k in
    let both : xb * (a * yb) < xb * (y * b) = omega (arith, first, second) in
    lt_of_mul-lt-mul_left xb both

pub ratio_cuts_kept : (b : List ℕ) → IsImage b → ratio_cuts_fault b ≡ None
unfolding sections_fault
ratio_cuts_kept b h = first_none_head _ _ (first_none_tail _ _ (first_none_tail _ _ (first_none_tail _ _ (sections_kept b h))))

pub ratio_bottom_some : (b : List ℕ) → IsImage b → (k : ℕ) → k < ratio_total b → 1 ≤ ratio_bottom_at b k
unfolding ratio_cuts_fault
ratio_bottom_some b h k there =
    let none = first_from_each 0 (ratio_total b) (ratio_cut_fault b) (ratio_cuts_kept b h) k (omega arith) (omega arith) in
    leb-true _ _ (and_parts _ _ (unless_none _ _ (first_none_head _ _ none))).1

-- the ratio cuts rise as fractions
pub ratio_cut_rises : (b : List ℕ) → IsImage b → (k : ℕ) → k + 1 < ratio_total b → ratio_top_at b k * ratio_bottom_at b (k + 1) < ratio_top_at b (k + 1) * ratio_bottom_at b k
unfolding ratio_cuts_fault
ratio_cut_rises b h k there =
    let none = first_from_each 0 (ratio_total b) (ratio_cut_fault b) (ratio_cuts_kept b h) (k + 1) (omega arith) (omega arith) in
    let order = unless_none _ _ (first_none_head _ _ (first_none_tail _ _ none)) in
    elim (or_cases _ _ order) [
      | inl first ↦ absurd (let e = eqb-true (k + 1) 0 first in omega (arith, e))
      | inr rises ↦ let same : k + 1 - 1 ≡ k = omega arith in ltb-true _ _ (rw same at rises)
    ]

pub ratio_cuts_rise : (b : List ℕ) → IsImage b → (i j : ℕ) → i + suc j < ratio_total b → ratio_top_at b i * ratio_bottom_at b (i + suc j) < ratio_top_at b (i + suc j) * ratio_bottom_at b i
ratio_cuts_rise b h i zero there =
    let e : i + suc zero ≡ i + 1 = omega arith in
    rw e (ratio_cut_rises b h i (omega arith))
ratio_cuts_rise b h i (suc j) there =
    let before = ratio_cuts_rise b h i j (omega arith) in
    let step = ratio_cut_rises b h (i + suc j) (omega arith) in
    let e : i + suc (suc j) ≡ (i + suc j) + 1 = omega arith in
    rw e (below_then (ratio_top_at b i) (ratio_bottom_at b i) (ratio_top_at b (i + suc j)) (ratio_bottom_at b (i + suc j)) (ratio_top_at b (i + suc j + 1)) (ratio_bottom_at b (i + suc j + 1)) (ratio_bottom_some b h i (omega arith)) (omega (arith, before)) step)

pub ratio_cut_before : (b : List ℕ) → IsImage b → (i j : ℕ) → i < j → j < ratio_total b → ratio_top_at b i * ratio_bottom_at b j < ratio_top_at b j * ratio_bottom_at b i
ratio_cut_before b h i j order there =
    let e : i + suc (j - i - 1) ≡ j = omega arith in
    rw e at (ratio_cuts_rise b h i (j - i - 1) (omega arith))
