use Rattle.std.proofs.Common.{◌≡◌, ℕ, ◌^◌, ◌<◌, true, false, List, ℤ, pos, ◌+ℤ◌, ◌≤ℤ◌, ◌<ℤ◌, w32, to_z, of_z, refl, sym, subst, arith}
use Rattle.std.proofs.lemmas.Int.{ints}
use Rattle.std.proofs.lemmas.Result.{err_from_is_err_and}
use lib.Signed.{lt_z}
use Rattle.std.specs.Prelude.{unsigned_abs}
use Rattle.wheel_types.specs.declared.place.Place.{Place}
use Rattle.wheel_types.specs.declared.parts.WheelParts.{WheelParts}
use Rattle.wheel_types.specs.declared.channel.Channel.TheVariants.{Cam1}
use Rattle.cam_ranges.specs.Places.{IsPlace}
use Rattle.cam_ranges.specs.Spans.{StandsIn}
use Rattle.cam_ranges.specs.Gathered.{AreExactly, IsBeforeFirst, IsBeforeSecond}
use Rattle.cam_ranges.proofs.GatheredPlaces.{AreFrom, exactly_same, exactly_with, second_least, second_more, first_is_second, second_is_first, none_at_edge, too_many}
use Rattle.cam_ranges.proofs.PlacesInGaps.{places_at_edge, no_places_at_edge}
use Rattle.cam_ranges.proofs.places.add_at_edge.Goals as goal

-- the test of the loop holds
less : (a b : ℤ) → lt_z a b ≡ true → a <ℤ b
less a b h = grind (arith, ints)

-- or fails
not_less : (a b : ℤ) → lt_z a b ≡ false → b ≤ℤ a
not_less a b h = grind (arith, ints)

-- a small number is what its bits say
back : (n : ℤ) → unsigned_abs n < 2 ^ 20 → to_z w32 (of_z w32 n) ≡ n
back n h = omega (arith, ints)

-- so is the one after a candidate
next : (m first end : ℤ) → unsigned_abs first < 2 ^ 20 → unsigned_abs end < 2 ^ 20 → first ≤ℤ m → m <ℤ end → to_z w32 (of_z w32 (m +ℤ pos 1)) ≡ m +ℤ pos 1
next m first end f e low high = omega (arith, ints)

-- the first candidate is before the one after any
further : (first m : ℤ) → first ≤ℤ m → first ≤ℤ (m +ℤ pos 1)
further first m h = omega (arith, ints)

-- the edge of the second cam is one with which it stands
within : (m first end : ℤ) → unsigned_abs first < 2 ^ 20 → unsigned_abs end < 2 ^ 20 → to_z w32 (of_z w32 first) ≤ℤ m → lt_z m (to_z w32 (of_z w32 end)) ≡ true → (first ≤ℤ m) × (m <ℤ end)
within m first end f e low high = (subst (λ z. z ≤ℤ m) (back first f) low, subst (λ z. m <ℤ z) (back end e) (less m (to_z w32 (of_z w32 end)) high))

-- a candidate makes a place
is_place : (w : WheelParts) (j : ℕ) (n m first end : ℤ) → AreFrom w j n first end → (first ≤ℤ m) × (m <ℤ end) → IsPlace w (record { j = j; n1 = n; n2 = m })
is_place w j n m first end are h = (are (record { j = j; n1 = n; n2 = m }) refl refl).1 h

pub returns-in_default-clause-after : goal.returns-in_default-clause-after
returns-in_default-clause-after c =
    let w = c.args.wheel.now.parts in
    let j = c.args.j in
    let n = c.args.n1 in
    let none = subst (λ k. StandsIn w Cam1 k c.args.gap → ⊥) (back n c.requires.small) c.in_default.ensures in
    exactly_same (IsBeforeFirst w j n) (IsBeforeFirst w j (n +ℤ pos 1)) c.args.places.now.items c.requires.before (none_at_edge w j n (no_places_at_edge w j n c.args.gap c.requires.gap none))

pub loop-n2-init : goal.loop-n2-init
loop-n2-init c =
    let w = c.args.wheel.now.parts in
    let j = c.args.j in
    let n = to_z w32 (of_z w32 c.args.n1) in
    let first = c.candidates-seconds.result.first in
    let are = places_at_edge w j n first c.candidates-seconds.result.end c.args.gap c.in-Some.part c.requires.position c.requires.gap c.in-Some.ensures c.candidates-seconds.ensures.exact in
    let before = subst (λ k. AreExactly (IsBeforeFirst w j k) c.args.places.now.items) (sym (back c.args.n1 c.requires.small)) c.requires.before in
    let gathered = exactly_same (IsBeforeFirst w j n) (IsBeforeSecond w j n first) c.args.places.now.items before (first_is_second w j n first c.candidates-seconds.result.end are) in
    record {
      from = omega (arith, ints);
      gathered = subst (λ m. AreExactly (IsBeforeSecond w j n m) c.args.places.now.items) (sym (back first c.candidates-seconds.ensures.first)) gathered;
      few = c.requires.few;
    }

pub loop-n2-preserved : goal.loop-n2-preserved
loop-n2-preserved c =
    let w = c.args.wheel.now.parts in
    let j = c.args.j in
    let n = to_z w32 (of_z w32 c.args.n1) in
    let m = to_z w32 c.loop-n2.n2-bits in
    let seconds = c.candidates-seconds in
    let first = seconds.result.first in
    let end = seconds.result.end in
    let are = places_at_edge w j n first end c.args.gap c.in-Some.part c.requires.position c.requires.gap c.in-Some.ensures seconds.ensures.exact in
    let at = within m first end seconds.ensures.first seconds.ensures.end c.loop-n2.invariant.from c.loop-n2-test.true in
    let on = next m first end seconds.ensures.first seconds.ensures.end at.0 at.1 in
    let gathered = exactly_with (IsBeforeSecond w j n m) (IsBeforeSecond w j n (m +ℤ pos 1)) c.loop-n2.places.items (record { j = j; n1 = n; n2 = m }) c.loop-n2.invariant.gathered (second_least w j n m) (second_more w j n m (is_place w j n m first end are at)) in
    record {
      from = subst (λ k. to_z w32 (of_z w32 first) ≤ℤ k) (sym on) (further (to_z w32 (of_z w32 first)) m c.loop-n2.invariant.from);
      gathered = subst (λ k. AreExactly (IsBeforeSecond w j n k) c.add.new.places.items) (sym on) (subst (λ (ps : List Place). AreExactly (IsBeforeSecond w j n (m +ℤ pos 1)) ps) (sym c.in_ok-add.ensures.added) gathered);
      few = c.in_ok-add.ensures.few;
    }

pub returns-in_err-add-clause-many : goal.returns-in_err-add-clause-many
returns-in_err-add-clause-many c =
    let w = c.args.wheel.now.parts in
    let j = c.args.j in
    let n = to_z w32 (of_z w32 c.args.n1) in
    let m = to_z w32 c.loop-n2.n2-bits in
    let seconds = c.candidates-seconds in
    let first = seconds.result.first in
    let end = seconds.result.end in
    let are = places_at_edge w j n first end c.args.gap c.in-Some.part c.requires.position c.requires.gap c.in-Some.ensures seconds.ensures.exact in
    let at = within m first end seconds.ensures.first seconds.ensures.end c.loop-n2.invariant.from c.loop-n2-test.true in
    let p = err_from_is_err_and c.from_residual.result c.from_residual.ensures.1 in
    rw (p.1, p.2) (λ e. too_many w (IsBeforeSecond w j n m) c.loop-n2.places.items (record { j = j; n1 = n; n2 = m }) c.loop-n2.invariant.gathered (λ q k. k.0) (second_least w j n m) (is_place w j n m first end are at) (c.in_err-add.ensures.many e))

pub returns-clause-after : goal.returns-clause-after
returns-clause-after c =
    let w = c.args.wheel.now.parts in
    let j = c.args.j in
    let n = to_z w32 (of_z w32 c.args.n1) in
    let m = to_z w32 c.loop-n2.n2-bits in
    let first = c.candidates-seconds.result.first in
    let end = c.candidates-seconds.result.end in
    let are = places_at_edge w j n first end c.args.gap c.in-Some.part c.requires.position c.requires.gap c.in-Some.ensures c.candidates-seconds.ensures.exact in
    let past : end ≤ℤ m = subst (λ z. z ≤ℤ m) (back end c.candidates-seconds.ensures.end) (not_less m (to_z w32 (of_z w32 end)) c.loop-n2-test.false) in
    subst (λ k. AreExactly (IsBeforeFirst w j (k +ℤ pos 1)) c.loop-n2.places.items) (back c.args.n1 c.requires.small) (exactly_same (IsBeforeSecond w j n m) (IsBeforeFirst w j (n +ℤ pos 1)) c.loop-n2.places.items c.loop-n2.invariant.gathered (second_is_first w j n first end m are past))
