use Rattle.std.proofs.Common.{◌≡◌, ◌+◌, ◌^◌, ◌<◌, true, false, ℤ, pos, ◌+ℤ◌, ◌≤ℤ◌, ◌<ℤ◌, w32, to_z, of_z, sym, subst, arith}
use Rattle.std.proofs.lemmas.Int.{ints}
use lib.Signed.{lt_z}
use Rattle.std.specs.Prelude.{unsigned_abs}
use Rattle.cam_ranges.specs.Gathered.{AreExactly, IsBeforePosition, IsBeforeFirst}
use Rattle.cam_ranges.proofs.GatheredPlaces.{exactly_same, position_is_first, first_is_position}
use Rattle.cam_ranges.proofs.PlacesInGaps.{places_at_position}
use Rattle.cam_ranges.proofs.places.add_at_position.Goals as goal

-- the test of the loop holds
less : (a b : ℤ) → lt_z a b ≡ true → a <ℤ b
less a b h = grind (arith, ints)

-- or fails
not_less : (a b : ℤ) → lt_z a b ≡ false → b ≤ℤ a
not_less a b h = grind (arith, ints)

-- a small number is what its bits say
back : (n : ℤ) → unsigned_abs n < 2 ^ 20 → to_z w32 (of_z w32 n) ≡ n
back n h = omega (arith, ints)

-- the first candidate is before the one after any
further : (first m : ℤ) → first ≤ℤ m → first ≤ℤ (m +ℤ pos 1)
further first m h = omega (arith, ints)

-- an edge of the first cam from the first on, before the last
within : (n first end : ℤ) → unsigned_abs first < 2 ^ 20 → unsigned_abs end < 2 ^ 20 → to_z w32 (of_z w32 first) ≤ℤ n → lt_z n (to_z w32 (of_z w32 end)) ≡ true → (unsigned_abs n < 2 ^ 20) × (to_z w32 (of_z w32 (n +ℤ pos 1)) ≡ n +ℤ pos 1)
within n first end f e low high =
    let from : first ≤ℤ n = subst (λ z. z ≤ℤ n) (back first f) low in
    let until : n <ℤ end = subst (λ z. n <ℤ z) (back end e) (less n (to_z w32 (of_z w32 end)) high) in (
      omega (arith, ints, from, until),
      omega (arith, ints, from, until),
    )

pub loop-n1-init : goal.loop-n1-init
loop-n1-init c =
    let w = c.args.wheel.now.parts in
    let j = c.args.j in
    let first = c.candidates-firsts.result.first in
    let are = places_at_position w j first c.candidates-firsts.result.end c.gap-gap.result c.gap-gap.ensures c.candidates-firsts.ensures.exact in
    record {
      from = omega (arith, ints);
      gathered = subst (λ k. AreExactly (IsBeforeFirst w j k) c.args.places.now.items) (sym (back first c.candidates-firsts.ensures.first)) (exactly_same (IsBeforePosition w j) (IsBeforeFirst w j first) c.args.places.now.items c.requires.before (position_is_first w j first c.candidates-firsts.result.end are));
      few = c.requires.few;
    }

pub add_at_edge-requires-clause-small : goal.add_at_edge-requires-clause-small
add_at_edge-requires-clause-small c = (within (to_z w32 c.loop-n1.n1-bits) c.candidates-firsts.result.first c.candidates-firsts.result.end c.candidates-firsts.ensures.first c.candidates-firsts.ensures.end c.loop-n1.invariant.from c.loop-n1-test.true).0

pub loop-n1-preserved : goal.loop-n1-preserved
loop-n1-preserved c =
    let w = c.args.wheel.now.parts in
    let j = c.args.j in
    let n = to_z w32 c.loop-n1.n1-bits in
    let first = c.candidates-firsts.result.first in
    let at = within n first c.candidates-firsts.result.end c.candidates-firsts.ensures.first c.candidates-firsts.ensures.end c.loop-n1.invariant.from c.loop-n1-test.true in
    record {
      from = subst (λ k. to_z w32 (of_z w32 first) ≤ℤ k) (sym at.1) (further (to_z w32 (of_z w32 first)) n c.loop-n1.invariant.from);
      gathered = subst (λ k. AreExactly (IsBeforeFirst w j k) c.add_at_edge.new.places.items) (sym at.1) c.in_ok-add_at_edge.ensures.after;
      few = c.in_ok-add_at_edge.ensures.few;
    }

pub returns-clause-after : goal.returns-clause-after
returns-clause-after c =
    let w = c.args.wheel.now.parts in
    let j = c.args.j in
    let n = to_z w32 c.loop-n1.n1-bits in
    let first = c.candidates-firsts.result.first in
    let end = c.candidates-firsts.result.end in
    let are = places_at_position w j first end c.gap-gap.result c.gap-gap.ensures c.candidates-firsts.ensures.exact in
    let past : end ≤ℤ n = subst (λ z. z ≤ℤ n) (back end c.candidates-firsts.ensures.end) (not_less n (to_z w32 (of_z w32 end)) c.loop-n1-test.false) in
    exactly_same (IsBeforeFirst w j n) (IsBeforePosition w (j + 1)) c.loop-n1.places.items c.loop-n1.invariant.gathered (first_is_position w j first end n are past)
