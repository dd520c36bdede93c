-- No rule is broken exactly where the table is kept.
use Rattle.std.proofs.Common.{◌≡◌, ℕ, zero, suc, ◌+◌, ◌-◌, ◌*◌, ◌/◌, ◌%◌, ◌<◌, ◌≤◌, ◌||◌, ◌&&◌, ◌==◌, Bool, true, List, ◌∷◌, length, take, drop, get_or, Option, None, Some, refl, sym, ap, ◌∙◌, arith, ◌⊎◌, inl, inr, eqb-true, eq-eqb, min}
use Rattle.std.specs.Prelude.{ℤ, ◌<ℤ◌, nat_lt, int_lt, slice_range}
use Rattle.std.specs.Ordering.{int_eq}
use Rattle.std.proofs.Math.Nat.{div-add-mod', mod-lt, mul-le-mul_right}
use Rattle.image_layout.proofs.Images.{entry_kept, entry_below, rows_kept}
use Rattle.image_layout.proofs.RowNumbers.{row_of_below, entry_fault_at}
use Rattle.std.proofs.lemmas.Bool.{true≢false, cond-false, eqb-false, and_parts, and_from, or_cases, or_left, or_right, leb-true, ltb-true, le-leb, lt-ltb, ne_eqb, not-true, cases_Bool, not_from_false}
use Rattle.std.proofs.lemmas.Bool.Decides.{Decides-int_eq}
use Rattle.std.proofs.lemmas.Int.{ints}
use Rattle.std.proofs.lemmas.List.{get_or-take, get_or-drop, length-take, length-drop, get_or_default}
use Rattle.std.proofs.lemmas.List.Sums.{AllPass-from_list_all, list_all-from_AllPass}
use Rattle.wheel_types.specs.declared.place.Place.{Place}
use Rattle.image_layout.specs.declared.fault.ImageFault.{ImageFault}
use Rattle.image_layout.specs.Layout.{word_at, slot_total, place_total, time_total, ratio_total, state_total, set_words, row_width, members_begin, image_end}
use Rattle.image_layout.specs.Fields.{kept_at, place_at, time_cut_at, ratio_top_at, ratio_bottom_at, kind_word_at, entry_at, crank_total}
use Rattle.image_layout.specs.Faults.{first_of, first_from}
use Rattle.image_layout.specs.HeaderRules.{front_fault, counts_fault, cams_fault, engine_fault, length_fault, header_fault}
use Rattle.image_layout.specs.ListRules.{slots_fault, slot_fault, places_fault, place_fault, is_place, is_below, is_padding, time_cuts_fault, time_cut_fault, ratio_cuts_fault, ratio_cut_fault}
use Rattle.image_layout.specs.StateRules.{kinds_fault, kind_fault, is_kind, is_phase, is_dead, is_at, is_open, is_entry, members_fault, set_fault, rows_fault, entry_fault}
use Rattle.image_layout.specs.Rules.{IsImage, sections_fault, first_fault}
use Rattle.std.specs.Prelude.{◌↔◌, Result, Ok, Err, IsOk}
use Rattle.image_format.specs.Tells.{Tells}
use Rattle.image_layout.specs.Keeps.{AreCounts}
use Rattle.image_layout.specs.Tables.{AreZero, KeepsHeader, KeepsSlots, KeepsPlaces, KeepsTimeCuts, KeepsRatioCuts, KeepsKinds, KeepsMembers, KeepsRows, IsBelow, IsPlace, IsAt, IsOpen, KeepsLayout}
use Rattle.image_layout.proofs.Firsts.{first_next, first_none, first_none_head, first_none_tail, first_from_none, first_from_each, unless_none, unless_true}
use Rattle.image_layout.proofs.Counts.{length_kept, counts_kept}

-- one rule more that is kept
also : (x : Option ImageFault) (xs : List (Option ImageFault)) → x ≡ None → first_of xs ≡ None → first_of (x ∷ xs) ≡ None
also x xs e rest = first_next x xs e ∙ rest

int_below : (x y : ℤ) → int_lt x y ≡ true → x <ℤ y
int_below x y e = omega (arith, ints)

below_int : (x y : ℤ) → x <ℤ y → int_lt x y ≡ true
below_int x y h = elim (cases_Bool (int_lt x y)) [ inl e ↦ e | inr e ↦ absurd (omega (arith, ints)) ]

eq_int : (x y : ℤ) → x ≡ y → int_eq x y ≡ true
eq_int x y e = (Decides-int_eq x y).1 e

int_same : (x y : ℤ) → int_eq x y ≡ true → x ≡ y
int_same x y e = (Decides-int_eq x y).0 e

-- padding
pub zero_bytes : (b : List ℕ) (from to : ℕ) → to ≤ length b → is_padding b from to ≡ true → AreZero b from to
zero_bytes b from to long e at low high =
    let within : at - from < length (take (to - from) (drop from b)) = rw (length-take, length-drop) (omega arith) in
    let here = AllPass-from_list_all (λ (x : ℕ). x == 0) (slice_range b from to) e (at - from) 0 within in
    let place : get_or (slice_range b from to) (at - from) 0 ≡ get_or b at 0 = get_or-take (to - from) (drop from b) (at - from) 0 (omega arith) ∙ get_or-drop from b (at - from) 0 ∙ ap (λ (i : ℕ). get_or b i 0) (omega arith) in
    sym place ∙ eqb-true _ _ here

pub bytes_zero : (b : List ℕ) (from to : ℕ) → to ≤ length b → AreZero b from to → is_padding b from to ≡ true
bytes_zero b from to long h = list_all-from_AllPass (λ (x : ℕ). x == 0) (slice_range b from to) (λ i d lt.
    let within : i < min (to - from) (length b - from) = rw (length-take, length-drop) at lt in
    let place : get_or (slice_range b from to) i d ≡ get_or b (from + i) 0 = get_or-take (to - from) (drop from b) i d (omega (arith, within)) ∙ get_or-drop from b i d ∙ get_or_default b (from + i) d 0 (omega (arith, within)) in
    eq-eqb _ _ (place ∙ h (from + i) (omega arith) (omega (arith, within))))

-- the header
front_tells : (b : List ℕ) → front_fault b ≡ None → (72 ≤ length b) × (word_at b 0 ≡ 0x4e595357) × (word_at b 4 ≡ 1)
unfolding front_fault
front_tells b e =
    let magic = unless_none _ _ (first_none_head _ _ e) in
    let e2 = first_none_tail _ _ e in
    let e3 = first_none_tail _ _ e2 in
    (leb-true _ _ (unless_none _ _ (first_none_head _ _ e2)), eqb-true _ _ (and_parts _ _ magic).1, eqb-true _ _ (unless_none _ _ (first_none_head _ _ e3)))

front_from : (b : List ℕ) → KeepsHeader b → front_fault b ≡ None
unfolding front_fault
front_from b h =
    also _ _ (unless_true _ _ (and_from _ _ (le-leb 4 (length b) (let f = h.front in omega (arith, f))) (eq-eqb _ _ h.magic)))
    (also _ _ (unless_true _ _ (le-leb _ _ h.front)) (also _ _ (unless_true _ _ (eq-eqb _ _ h.version)) first_none))

counts_from : (b : List ℕ) → AreCounts b → counts_fault b ≡ None
unfolding counts_fault
counts_from b h =
    also _ _ (unless_true _ _ (and_from _ _ (le-leb _ _ h.slots.0) (le-leb _ _ h.slots.1)))
    (also _ _ (unless_true _ _ (and_from _ _ (le-leb _ _ h.places.0) (le-leb _ _ h.places.1)))
    (also _ _ (unless_true _ _ (le-leb _ _ h.times))
    (also _ _ (unless_true _ _ (le-leb _ _ h.ratios))
    (also _ _ (unless_true _ _ (and_from _ _ (and_from _ _ (and_from _ _ (le-leb _ _ h.states.0) (le-leb _ _ h.states.1)) (le-leb _ _ h.members)) (le-leb _ _ h.rows)))
    first_none))))

abbrev KeepsCams : List ℕ → Type 0
KeepsCams b =
    ((word_at b 32 ≡ 360) ⊎ (word_at b 32 ≡ 720))
    × ((word_at b 36 < 64) × (1 ≤ kept_at b 1) × (1 ≤ kept_at b 4) × (1 ≤ kept_at b 16))
    × (word_at b 40 + word_at b 44 < 1000 * word_at b 32) × (word_at b 48 + word_at b 52 < 1000 * word_at b 32)

cams_tells : (b : List ℕ) → cams_fault b ≡ None → KeepsCams b
unfolding cams_fault
cams_tells b e =
    let e2 = first_none_tail _ _ e in
    let e3 = first_none_tail _ _ e2 in
    let e4 = first_none_tail _ _ e3 in
    let keep = and_parts _ _ (unless_none _ _ (first_none_head _ _ e2)) in
    let keep2 = and_parts _ _ keep.0 in
    let keep3 = and_parts _ _ keep2.0 in (
      elim (or_cases _ _ (unless_none _ _ (first_none_head _ _ e))) [ inl a ↦ inl (eqb-true _ _ a) | inr a ↦ inr (eqb-true _ _ a) ],
      (ltb-true _ _ keep.1, ltb-true _ _ keep3.0, ltb-true _ _ keep3.1, ltb-true _ _ keep2.1),
      ltb-true _ _ (unless_none _ _ (first_none_head _ _ e3)),
      ltb-true _ _ (unless_none _ _ (first_none_head _ _ e4)),
    )

cams_from : (b : List ℕ) → KeepsHeader b → cams_fault b ≡ None
unfolding cams_fault
cams_from b h =
    also _ _ (unless_true _ _ (elim h.degrees [ inl a ↦ or_left _ _ (eq-eqb _ _ a) | inr a ↦ or_right _ _ (eq-eqb _ _ a) ]))
    (also _ _ (unless_true _ _ (and_from _ _ (and_from _ _ (and_from _ _ (lt-ltb _ _ h.crank) (lt-ltb _ _ h.cam1)) (lt-ltb _ _ h.cam2)) (lt-ltb _ _ h.keep)))
    (also _ _ (unless_true _ _ (lt-ltb _ _ h.phasing1))
    (also _ _ (unless_true _ _ (lt-ltb _ _ h.phasing2)) first_none)))

abbrev KeepsEngine : List ℕ → Type 0
KeepsEngine b = ((1 ≤ word_at b 56) × (word_at b 56 ≤ word_at b 60) × (word_at b 60 ≤ 30000)) × ((1 ≤ word_at b 68) × (word_at b 68 ≤ word_at b 64) × (word_at b 64 ≤ 65535))

engine_tells : (b : List ℕ) → engine_fault b ≡ None → KeepsEngine b
unfolding engine_fault
engine_tells b e =
    let e2 = first_none_tail _ _ e in
    let e3 = first_none_tail _ _ e2 in
    let e4 = first_none_tail _ _ e3 in
    let low = and_parts _ _ (unless_none _ _ (first_none_head _ _ e)) in
    let ratio = and_parts _ _ (unless_none _ _ (first_none_head _ _ e3)) in (
      (leb-true _ _ low.0, leb-true _ _ low.1, leb-true _ _ (unless_none _ _ (first_none_head _ _ e2))),
      (leb-true _ _ (unless_none _ _ (first_none_head _ _ e4)), leb-true _ _ ratio.1, leb-true _ _ ratio.0),
    )

engine_from : (b : List ℕ) → KeepsHeader b → engine_fault b ≡ None
unfolding engine_fault
engine_from b h =
    also _ _ (unless_true _ _ (and_from _ _ (le-leb _ _ h.rpm.0) (le-leb _ _ h.rpm.1)))
    (also _ _ (unless_true _ _ (le-leb _ _ h.rpm.2))
    (also _ _ (unless_true _ _ (and_from _ _ (le-leb _ _ h.ratio.2) (le-leb _ _ h.ratio.1)))
    (also _ _ (unless_true _ _ (le-leb _ _ h.ratio.0)) first_none)))

told_kept : (b : List ℕ) → length_fault b ≡ None → word_at b 8 ≡ image_end b
unfolding length_fault
told_kept b e = eqb-true _ _ (unless_none _ _ (first_none_head _ _ (first_none_tail _ _ (first_none_tail _ _ e))))

length_from : (b : List ℕ) → KeepsHeader b → length_fault b ≡ None
unfolding length_fault
length_from b h =
    also _ _ (unless_true _ _ (le-leb (image_end b) (length b) (let w = h.whole in omega (arith, w))))
    (also _ _ (unless_true _ _ (le-leb (length b) (image_end b) (let w = h.whole in omega (arith, w))))
    (also _ _ (unless_true _ _ (eq-eqb _ _ h.told)) first_none))

pub header_tells : (b : List ℕ) → header_fault b ≡ None → KeepsHeader b
unfolding header_fault
header_tells b e =
    let e2 = first_none_tail _ _ e in
    let e3 = first_none_tail _ _ e2 in
    let e4 = first_none_tail _ _ e3 in
    let e5 = first_none_tail _ _ e4 in
    let front = front_tells b (first_none_head _ _ e) in
    let cams = cams_tells b (first_none_head _ _ e3) in
    let engine = engine_tells b (first_none_head _ _ e4) in
    record {
      front = front.0;
      magic = front.1;
      version = front.2;
      whole = length_kept b (first_none_head _ _ e5);
      told = told_kept b (first_none_head _ _ e5);
      counts = counts_kept b (first_none_head _ _ e2);
      degrees = cams.0;
      keep = cams.1.0;
      crank = cams.1.1;
      cam1 = cams.1.2;
      cam2 = cams.1.3;
      phasing1 = cams.2;
      phasing2 = cams.3;
      rpm = engine.0;
      ratio = engine.1;
    }

pub header_from : (b : List ℕ) → KeepsHeader b → header_fault b ≡ None
unfolding header_fault
header_from b h = also _ _ (front_from b h) (also _ _ (counts_from b h.counts) (also _ _ (cams_from b h) (also _ _ (engine_from b h) (also _ _ (length_from b h) first_none))))

-- the entries of a section
each : (n : ℕ) (fault_of : ℕ → Option ImageFault) → first_from 0 n fault_of ≡ None → (k : ℕ) → k < n → fault_of k ≡ None
each n fault_of e k lt = first_from_each 0 n fault_of e k (omega arith) (omega arith)

from_each : (n : ℕ) (fault_of : ℕ → Option ImageFault) → ((k : ℕ) → k < n → fault_of k ≡ None) → first_from 0 n fault_of ≡ None
from_each n fault_of h = first_from_none 0 n fault_of (λ k from to. h k (omega arith))

-- what is asked of the later of two entries
next_holds : (test : ℕ → Bool) (k : ℕ) → (((k + 1) == 0) || test (k + 1)) ≡ true → test (k + 1) ≡ true
next_holds test k e = elim (or_cases _ _ e) [ inl first ↦ absurd (let z = eqb-true (k + 1) 0 first in omega (arith, z)) | inr holds ↦ holds ]

later_holds : (test : ℕ → Bool) (k : ℕ) → ((m : ℕ) → k ≡ m + 1 → test k ≡ true) → ((k == 0) || test k) ≡ true
later_holds test zero h = or_left (0 == 0) (test 0) (eq-eqb 0 0 refl)
later_holds test (suc m) h = or_right (suc m == 0) (test (suc m)) (h m (omega arith))

-- section 1
pub slots_tells : (b : List ℕ) → length b ≡ image_end b → slots_fault b ≡ None → KeepsSlots b
unfolding slots_fault
slots_tells b whole e =
    let e2 = first_none_tail _ _ e in
    let e3 = first_none_tail _ _ e2 in
    record {
      values = λ k lt. leb-true _ _ (unless_none _ _ (each _ _ (first_none_head _ _ e) k lt));
      crank_edge = leb-true _ _ (unless_none _ _ (first_none_head _ _ e2));
      padding = zero_bytes b _ _ (omega (arith, whole)) (unless_none _ _ (first_none_head _ _ e3));
    }

pub slots_from : (b : List ℕ) → length b ≡ image_end b → KeepsSlots b → slots_fault b ≡ None
unfolding slots_fault
slots_from b whole h =
    also _ _ (from_each (slot_total b) (slot_fault b) (λ k lt. unless_true _ _ (le-leb _ _ (h.values k lt))))
    (also _ _ (unless_true _ _ (le-leb _ _ h.crank_edge))
    (also _ _ (unless_true _ _ (bytes_zero b _ _ (omega (arith, whole)) h.padding)) first_none))

-- section 2
is_below_tells : (p q : Place) → is_below p q ≡ true → IsBelow p q
is_below_tells p q e =
    elim (or_cases _ _ e) [
      | inl a ↦ inl (ltb-true _ _ a)
      | inr a ↦
          let parts = and_parts _ _ a in
          inr (
            eqb-true _ _ parts.0,
            elim (or_cases _ _ parts.1) [
              | inl n1 ↦ inl (int_below _ _ n1)
              | inr rest ↦ let both = and_parts _ _ rest in inr (int_same _ _ both.0, int_below _ _ both.1)
            ],
          )
    ]

is_below_from : (p q : Place) → IsBelow p q → is_below p q ≡ true
is_below_from p q h =
    elim h [
      | inl a ↦ or_left _ _ (lt-ltb _ _ a)
      | inr a ↦ or_right _ _ (and_from _ _ (eq-eqb _ _ a.0) (elim a.1 [
        | inl n1 ↦ or_left _ _ (below_int _ _ n1)
        | inr rest ↦ or_right _ _ (and_from _ _ (eq_int _ _ rest.0) (below_int _ _ rest.1))
      ]))
    ]

is_place_tells : (n : ℕ) (p : Place) → is_place n p ≡ true → IsPlace n p
is_place_tells n p e =
    let a = and_parts _ _ e in
    let c = and_parts _ _ a.0 in
    (ltb-true _ _ c.0, ltb-true _ _ c.1, ltb-true _ _ a.1)

is_place_from : (n : ℕ) (p : Place) → IsPlace n p → is_place n p ≡ true
is_place_from n p h = and_from _ _ (and_from _ _ (lt-ltb _ _ h.0) (lt-ltb _ _ h.1)) (lt-ltb _ _ h.2)

pub places_tells : (b : List ℕ) → length b ≡ image_end b → places_fault b ≡ None → KeepsPlaces b
unfolding places_fault
places_tells b whole e =
    let e2 = first_none_tail _ _ e in
    let entries = each (place_total b) (place_fault b) (first_none_head _ _ e) in
    record {
      range = λ k lt. is_place_tells (crank_total b) (place_at b k) (unless_none _ _ (first_none_head _ _ (entries k lt)));
      ascend = λ k lt.
          let same : k + 1 - 1 ≡ k = omega arith in
          let order = next_holds (λ i. is_below (place_at b (i - 1)) (place_at b i)) k (unless_none _ _ (first_none_head _ _ (first_none_tail _ _ (entries (k + 1) lt)))) in
          is_below_tells (place_at b k) (place_at b (k + 1)) (rw same at order);
      padding = zero_bytes b _ _ (omega (arith, whole)) (unless_none _ _ (first_none_head _ _ e2));
    }

pub places_from : (b : List ℕ) → length b ≡ image_end b → KeepsPlaces b → places_fault b ≡ None
unfolding places_fault
places_from b whole h =
    also _ _ (from_each (place_total b) (place_fault b) (λ k lt.
    also _ _ (unless_true _ _ (is_place_from (crank_total b) (place_at b k) (h.range k lt)))
    (also _ _ (unless_true _ _ (later_holds (λ i. is_below (place_at b (i - 1)) (place_at b i)) k (λ m e.
    let before : k - 1 ≡ m = omega arith in
    rw (before, e) (is_below_from (place_at b m) (place_at b (m + 1)) (h.ascend m (omega arith)))))) first_none)))
    (also _ _ (unless_true _ _ (bytes_zero b _ _ (omega (arith, whole)) h.padding)) first_none)

-- section 3
pub time_cuts_tells : (b : List ℕ) → time_cuts_fault b ≡ None → KeepsTimeCuts b
unfolding time_cuts_fault
time_cuts_tells b e =
    let entries = each (time_total b) (time_cut_fault b) e in
    record {
      range = λ k lt. leb-true _ _ (unless_none _ _ (first_none_head _ _ (entries k lt)));
      ascend = λ k lt.
          let same : k + 1 - 1 ≡ k = omega arith in
          let order = next_holds (λ i. nat_lt (time_cut_at b (i - 1)) (time_cut_at b i)) k (unless_none _ _ (first_none_head _ _ (first_none_tail _ _ (entries (k + 1) lt)))) in
          ltb-true _ _ (rw same at order);
    }

pub time_cuts_from : (b : List ℕ) → KeepsTimeCuts b → time_cuts_fault b ≡ None
unfolding time_cuts_fault
time_cuts_from b h =
    from_each (time_total b) (time_cut_fault b) (λ k lt.
    also _ _ (unless_true _ _ (le-leb _ _ (h.range k lt)))
    (also _ _ (unless_true _ _ (later_holds (λ i. nat_lt (time_cut_at b (i - 1)) (time_cut_at b i)) k (λ m e.
    let before : k - 1 ≡ m = omega arith in
    rw (before, e) (lt-ltb _ _ (h.ascend m (omega arith)))))) first_none))

-- section 4
pub ratio_cuts_tells : (b : List ℕ) → ratio_cuts_fault b ≡ None → KeepsRatioCuts b
unfolding ratio_cuts_fault
ratio_cuts_tells b e =
    let entries = each (ratio_total b) (ratio_cut_fault b) e in
    record {
      range = λ k lt. let a = and_parts _ _ (unless_none _ _ (first_none_head _ _ (entries k lt))) in (leb-true _ _ a.0, leb-true _ _ a.1);
      ascend = λ k lt.
          let same : k + 1 - 1 ≡ k = omega arith in
          let order = next_holds (λ i. nat_lt (ratio_top_at b (i - 1) * ratio_bottom_at b i) (ratio_top_at b i * ratio_bottom_at b (i - 1))) k (unless_none _ _ (first_none_head _ _ (first_none_tail _ _ (entries (k + 1) lt)))) in
          ltb-true _ _ (rw same at order);
    }

pub ratio_cuts_from : (b : List ℕ) → KeepsRatioCuts b → ratio_cuts_fault b ≡ None
unfolding ratio_cuts_fault
ratio_cuts_from b h =
    from_each (ratio_total b) (ratio_cut_fault b) (λ k lt.
    also _ _ (unless_true _ _ (and_from _ _ (le-leb _ _ (h.range k lt).0) (le-leb _ _ (h.range k lt).1)))
    (also _ _ (unless_true _ _ (later_holds (λ i. nat_lt (ratio_top_at b (i - 1) * ratio_bottom_at b i) (ratio_top_at b i * ratio_bottom_at b (i - 1))) k (λ m e.
    let before : k - 1 ≡ m = omega arith in
    rw (before, e) (lt-ltb _ _ (h.ascend m (omega arith)))))) first_none))

-- section 5
kind_rule : (b : List ℕ) (q phase kind e f : ℕ) → 1 ≤ q → is_kind b q phase kind e f ≡ (is_phase q phase && (is_at (crank_total b) kind e f || is_open b kind e f))
kind_rule b q phase kind e f some = cond-false (q == 0) (is_dead phase kind e f) (is_phase q phase && (is_at (crank_total b) kind e f || is_open b kind e f)) (ne_eqb q 0 (λ z. omega arith))

pub kinds_tells : (b : List ℕ) → 2 ≤ state_total b → kinds_fault b ≡ None → KeepsKinds b
unfolding kinds_fault
kinds_tells b two e =
    let entries = each (state_total b) (kind_fault b) e in
    let dead = and_parts _ _ (unless_none _ _ (entries 0 (omega arith))) in
    let dead2 = and_parts _ _ dead.0 in
    let dead3 = and_parts _ _ dead2.0 in
    let of : (q : ℕ) → 1 ≤ q → q < state_total b → (is_phase q (kind_word_at b q 0) ≡ true) × ((is_at (crank_total b) (kind_word_at b q 1) (kind_word_at b q 2) (kind_word_at b q 3) || is_open b (kind_word_at b q 1) (kind_word_at b q 2) (kind_word_at b q 3)) ≡ true) =
    λ q some lt. and_parts _ _ (sym (kind_rule b q (kind_word_at b q 0) (kind_word_at b q 1) (kind_word_at b q 2) (kind_word_at b q 3) some) ∙ unless_none _ _ (entries q lt)) in
    record {
      dead = (eqb-true _ _ dead3.0, eqb-true _ _ dead3.1, eqb-true _ _ dead2.1, eqb-true _ _ dead.1);
      phases = λ q some lt. leb-true _ _ (and_parts _ _ (of q some lt).0).0;
      start = eqb-true _ _ (and_parts _ _ (of 1 (omega arith) (omega arith)).0).1;
      kinds = λ q some lt. elim (or_cases _ _ (of q some lt).1) [
        | inl at ↦
            let a = and_parts _ _ at in
            let c = and_parts _ _ a.0 in
            inl (eqb-true _ _ c.0, ltb-true _ _ c.1, eqb-true _ _ a.1)
        | inr open_between ↦
            let a = and_parts _ _ open_between in
            let c = and_parts _ _ a.0 in
            let d = and_parts _ _ c.0 in
            inr (eqb-true _ _ d.0, ltb-true _ _ d.1, ltb-true _ _ c.1, eqb-false _ _ (not-true _ a.1))
      ];
    }

phase_is : (q phase : ℕ) → phase ≤ 5 → (q ≡ 1 → phase ≡ 0) → is_phase q phase ≡ true
phase_is q phase low first =
    and_from _ _ (le-leb _ _ low) (elim (cases_Bool (q == 1)) [
      | inl one ↦ or_right _ _ (eq-eqb _ _ (first (eqb-true _ _ one)))
      | inr other ↦ or_left _ _ (not_from_false _ other)
    ])

dead_is : (phase kind e f : ℕ) → phase ≡ 0 → kind ≡ 0 → e ≡ 0 → f ≡ 0 → is_dead phase kind e f ≡ true
dead_is phase kind e f p k a c = and_from _ _ (and_from _ _ (and_from _ _ (eq-eqb _ _ p) (eq-eqb _ _ k)) (eq-eqb _ _ a)) (eq-eqb _ _ c)

at_is : (b : List ℕ) (q : ℕ) → IsAt b q → is_at (crank_total b) (kind_word_at b q 1) (kind_word_at b q 2) (kind_word_at b q 3) ≡ true
at_is b q h = and_from _ _ (and_from _ _ (eq-eqb _ _ h.0) (lt-ltb _ _ h.1)) (eq-eqb _ _ h.2)

open_is : (b : List ℕ) (q : ℕ) → IsOpen b q → is_open b (kind_word_at b q 1) (kind_word_at b q 2) (kind_word_at b q 3) ≡ true
open_is b q h = and_from _ _ (and_from _ _ (and_from _ _ (eq-eqb _ _ h.0) (lt-ltb _ _ h.1)) (lt-ltb _ _ h.2)) (not_from_false _ (ne_eqb _ _ h.3))

kind_kept : (b : List ℕ) → KeepsKinds b → (q : ℕ) → q < state_total b → is_kind b q (kind_word_at b q 0) (kind_word_at b q 1) (kind_word_at b q 2) (kind_word_at b q 3) ≡ true
kind_kept b h zero lt = dead_is _ _ _ _ h.dead.0 h.dead.1 h.dead.2 h.dead.3
kind_kept b h (suc n) lt =
    kind_rule b (suc n) (kind_word_at b (suc n) 0) (kind_word_at b (suc n) 1) (kind_word_at b (suc n) 2) (kind_word_at b (suc n) 3) (omega arith)
    ∙ and_from _ _ (phase_is (suc n) (kind_word_at b (suc n) 0) (h.phases (suc n) (omega arith) lt) (λ one. rw one h.start))
    (elim (h.kinds (suc n) (omega arith) lt) [ inl a ↦ or_left _ _ (at_is b (suc n) a) | inr a ↦ or_right _ _ (open_is b (suc n) a) ])

pub kinds_from : (b : List ℕ) → KeepsKinds b → kinds_fault b ≡ None
unfolding kinds_fault
kinds_from b h = from_each (state_total b) (kind_fault b) (λ q lt. unless_true _ _ (kind_kept b h q lt))

-- section 6
pub members_tells : (b : List ℕ) → 2 ≤ state_total b → members_begin b + 8 * set_words b ≤ length b → members_fault b ≡ None → KeepsMembers b
unfolding members_fault
members_tells b two long e =
    let entries = each (state_total b) (set_fault b) e in
    record {
      places = λ q lt. ltb-true _ _ (and_parts _ _ (unless_none _ _ (entries q lt))).0;
      dead = elim (or_cases _ _ (and_parts _ _ (unless_none _ _ (entries 0 (omega arith)))).1) [
        | inl none ↦ absurd (let z = ltb-true 0 0 none in omega (arith, z))
        | inr zeros ↦ zero_bytes b _ _ long zeros
      ];
    }

pub members_from : (b : List ℕ) → members_begin b + 8 * set_words b ≤ length b → KeepsMembers b → members_fault b ≡ None
unfolding members_fault
members_from b long h =
    from_each (state_total b) (set_fault b) (λ q lt. unless_true _ _ (and_from _ _ (lt-ltb _ _ (h.places q lt))
    (elim (cases_Bool (nat_lt 0 q)) [ inl later ↦ or_left _ _ later | inr first ↦ or_right _ _ (bytes_zero b _ _ long h.dead) ])))

-- section 7
none_is : (b : List ℕ) → first_fault b ≡ None → IsImage b
none_is b e = rw e refl

pub rows_tells : (b : List ℕ) → first_fault b ≡ None → AreCounts b → length b ≡ image_end b → KeepsRows b
unfolding rows_fault
rows_tells b e counts whole =
    let h = none_is b e in
    let two = counts.states.0 in
    record {
      dead = λ column lt. elim (or_cases _ _ (entry_kept b h 0 column (omega (arith, two)) lt)) [
        | inl none ↦ eqb-true _ _ none
        | inr parts ↦ cc
      ];
      range = λ q column there lt. entry_below b h counts q column there lt;
      leads = λ q column there lt. elim (or_cases _ _ (entry_kept b h q column there lt)) [
        | inl none ↦ inl (eqb-true _ _ none)
        | inr parts ↦ inr (and_parts _ _ parts).1
      ];
      padding = zero_bytes b _ _ (omega (arith, whole)) (unless_none _ _ (first_none_head _ _ (first_none_tail _ _ (rows_kept b h))));
    }

entry_from : (b : List ℕ) → KeepsRows b → (q column : ℕ) → q < state_total b → column < row_width b → is_entry b q column (entry_at b q column) ≡ true
entry_from b h zero column there lt = or_left _ _ (eq-eqb _ _ (h.dead column lt))
entry_from b h (suc n) column there lt =
    elim (h.leads (suc n) column there lt) [
      | inl none ↦ or_left _ _ (eq-eqb _ _ none)
      | inr leads ↦ or_right _ _ (and_from _ _ (and_from _ _ (lt-ltb 0 (suc n) (omega arith)) (lt-ltb _ _ (h.range (suc n) column there lt))) leads)
    ]

-- an entry's number, by its row and column
entry_parted : (b : List ℕ) → KeepsRows b → (e : ℕ) → e < state_total b * row_width b → entry_fault b e ≡ None
entry_parted b h e lt =
    let w : ℕ = row_width b in
    let split : e / w * w + e % w ≡ e = div-add-mod' e w in
    let small : e % w < w = mod-lt e (omega arith) in
    let below : e / w < state_total b = row_of_below (e / w) (e % w) w (state_total b) (rw split lt) in
    let at = entry_fault_at b (e / w) (e % w) small in
    let same : entry_fault b (e / w * w + e % w) ≡ entry_fault b e = ap (λ (n : ℕ). entry_fault b n) split in
    sym same ∙ at ∙ unless_true _ _ (entry_from b h (e / w) (e % w) below small)

pub rows_from : (b : List ℕ) → length b ≡ image_end b → KeepsRows b → rows_fault b ≡ None
unfolding rows_fault
rows_from b whole h =
    also _ _ (from_each (state_total b * row_width b) (entry_fault b) (λ e lt. entry_parted b h e lt))
    (also _ _ (unless_true _ _ (bytes_zero b _ _ (omega (arith, whole)) h.padding)) first_none)

-- all sections
set_within : (b : List ℕ) → 2 ≤ state_total b → length b ≡ image_end b → members_begin b + 8 * set_words b ≤ length b
set_within b two whole =
    let one : 1 * set_words b ≤ state_total b * set_words b = mul-le-mul_right (set_words b) (omega arith) in
    omega (arith, one, whole)

pub layout_tells : (b : List ℕ) → first_fault b ≡ None → KeepsLayout b
unfolding first_fault sections_fault
layout_tells b e =
    let header = header_tells b (first_none_head _ _ e) in
    let s1 : sections_fault b ≡ None = first_none_head _ _ (first_none_tail _ _ e) in
    let s2 = first_none_tail _ _ s1 in
    let s3 = first_none_tail _ _ s2 in
    let s4 = first_none_tail _ _ s3 in
    let s5 = first_none_tail _ _ s4 in
    let s6 = first_none_tail _ _ s5 in
    let s7 = first_none_tail _ _ s6 in
    let two = header.counts.states.0 in
    let whole = header.whole in
    record {
      header = header;
      slots = slots_tells b whole (first_none_head _ _ s1);
      places = places_tells b whole (first_none_head _ _ s2);
      time_cuts = time_cuts_tells b (first_none_head _ _ s3);
      ratio_cuts = ratio_cuts_tells b (first_none_head _ _ s4);
      kinds = kinds_tells b two (first_none_head _ _ s5);
      members = members_tells b two (set_within b two whole) (first_none_head _ _ s6);
      rows = rows_tells b e header.counts whole;
    }

pub layout_from : (b : List ℕ) → KeepsLayout b → first_fault b ≡ None
unfolding first_fault sections_fault
layout_from b h =
    let whole = h.header.whole in
    also _ _ (header_from b h.header)
    (also _ _
    (also _ _ (slots_from b whole h.slots)
    (also _ _ (places_from b whole h.places)
    (also _ _ (time_cuts_from b h.time_cuts)
    (also _ _ (ratio_cuts_from b h.ratio_cuts)
    (also _ _ (kinds_from b h.kinds)
    (also _ _ (members_from b (set_within b h.header.counts.states.0 whole) h.members)
    (also _ _ (rows_from b whole h.rows) first_none)))))))
    first_none)

none_some : (o : Option ImageFault) (f : ImageFault) → o ≡ None → o ≡ Some f → ⊥
none_some o f a c = cc

-- what a check that tells the first fault says of the table
pub layout_where : {X : Type 0} (r : Result X ImageFault) (b : List ℕ) → Tells r (first_fault b) → IsOk r ↔ KeepsLayout b
layout_where (Ok v) b e = ((λ yes. layout_tells b e), λ h. refl)
layout_where (Err f) b e = ((λ bad. absurd (true≢false (sym bad))), λ h. absurd (none_some _ f (layout_from b h) e))
