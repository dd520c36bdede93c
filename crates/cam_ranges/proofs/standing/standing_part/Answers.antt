use Rattle.std.proofs.Common.{◌≡◌, ℕ, ◌^◌, ◌<◌, ◌↔◌, true, false, ℤ, pos, ◌-ℤ◌, ◌≤ℤ◌, ◌<ℤ◌, w32, w64, to_z, of_z, sym, ◌∙◌, ap, arith}
use Rattle.std.proofs.lemmas.Int.{ints, clamps}
use lib.Signed.{le_z, mag}
use Rattle.std.specs.Prelude.{unsigned_abs}
use Rattle.std.specs.Int.{int_max, int_min}
use Rattle.wheel_types.specs.declared.channel.Channel.{Channel}
use Rattle.wheel_types.specs.declared.parts.WheelParts.{WheelParts}
use Rattle.wheel_types.specs.Edges.{edge_count, first_angle, last_angle}
use Rattle.wheel_types.specs.Motions.{CamStands}
use Rattle.cam_ranges.proofs.StandingSpans.{IsBetween, present_part}
use Rattle.cam_ranges.proofs.standing.standing_part.Goals as goal

-- a channel that has not no edges has some
some_by : (k n : ℕ) → (k ≡ 0 → ⊥) → k ≡ n → 0 < n
some_by k n h e = grind arith

-- a number whose bits are not 0 is not 0
not_zero : (n : ℤ) → (of_z w32 n ≡ 0 → ⊥) → n ≡ pos 0 → ⊥
not_zero n h e = h (ap (of_z w32) e)

pub returns-else-next-eq0 : goal.returns-else-next-eq0
returns-else-next-eq0 c = λ s.
    let none : edge_count c.args.wheel.now.parts c.args.cam ≡ 0 = sym (c.cam_count.ensures.of_wheel c.args.wheel.now.parts c.requires.table) ∙ c.if-cam_count-eq0.true in
    not_zero c.args.next c.if-next-eq0.false (s.1.1.absent none)

-- what is from two angles on is from the greater on
greater : (a low first x : ℤ) → a ≡ int_max low first → low ≤ℤ x → first ≤ℤ x → a ≤ℤ x
greater a low first x e h k = rw e (omega (arith, ints, clamps))

-- what is up to two angles is up to the lesser
lesser : (b high last x : ℤ) → b ≡ int_min high last → x ≤ℤ high → x ≤ℤ last → x ≤ℤ b
lesser b high last x e h k = rw e (omega (arith, ints, clamps))

-- the greater one is from both on
above_both : (a low first : ℤ) → a ≡ int_max low first → (low ≤ℤ a) × (first ≤ℤ a)
above_both a low first e = rw e (omega (arith, ints, clamps), omega (arith, ints, clamps))

-- the lesser one is up to both
below_both : (b high last : ℤ) → b ≡ int_min high last → (b ≤ℤ high) × (b ≤ℤ last)
below_both b high last e = rw e (omega (arith, ints, clamps), omega (arith, ints, clamps))

-- a is the greater one of the span's first angle and the cam's, b the lesser one of the last angles
record AreEnds (w : WheelParts) (c : Channel) (n low high a b : ℤ) : Type 0 where
  some : 0 < edge_count w c
  greater : a ≡ int_max low (first_angle w c (n -ℤ pos 1))
  lesser : b ≡ int_min high (last_angle w c n)

-- the angles of the code are these
ends : (w : WheelParts) (c : Channel) (n low high first last a b : ℤ) (count : ℕ) → (count ≡ 0 → ⊥) → count ≡ edge_count w c → unsigned_abs n < 2 ^ 20 → pos 0 ≤ℤ low → low ≤ℤ high → high ≤ℤ pos 8589934592 → mag first < 2 ^ 63 → mag last < 2 ^ 63 → mag a < 2 ^ 63 → mag b < 2 ^ 63 → first ≡ first_angle w c (to_z w32 (of_z w32 (to_z w32 (of_z w32 n) -ℤ pos 1))) → last ≡ last_angle w c (to_z w32 (of_z w32 n)) → a ≡ int_max (to_z w64 (of_z w64 low)) (to_z w64 (of_z w64 first)) → b ≡ int_min (to_z w64 (of_z w64 high)) (to_z w64 (of_z w64 last)) → AreEnds w c n low high (to_z w64 (of_z w64 a)) (to_z w64 (of_z w64 b))
ends w c n low high first last a b count some many small least order most fits_first fits_last fits_a fits_b f l g h =
    let before : to_z w32 (of_z w32 (to_z w32 (of_z w32 n) -ℤ pos 1)) ≡ n -ℤ pos 1 = omega (arith, ints) in
    let here : to_z w32 (of_z w32 n) ≡ n = omega (arith, ints) in
    let low_back : to_z w64 (of_z w64 low) ≡ low = omega (arith, ints) in
    let high_back : to_z w64 (of_z w64 high) ≡ high = omega (arith, ints) in
    let first_back : to_z w64 (of_z w64 first) ≡ first = omega (arith, ints) in
    let last_back : to_z w64 (of_z w64 last) ≡ last = omega (arith, ints) in
    let a_back : to_z w64 (of_z w64 a) ≡ a = omega (arith, ints) in
    let b_back : to_z w64 (of_z w64 b) ≡ b = omega (arith, ints) in
    record {
      some = some_by count (edge_count w c) some many;
      greater = a_back ∙ g ∙ ap (λ z. int_max z (to_z w64 (of_z w64 first))) low_back ∙ ap (int_max low) (first_back ∙ f ∙ ap (first_angle w c) before);
      lesser = b_back ∙ h ∙ ap (λ z. int_min z (to_z w64 (of_z w64 last))) high_back ∙ ap (int_min high) (last_back ∙ l ∙ ap (last_angle w c) here);
    }

-- so they bound the part
part : (w : WheelParts) (c : Channel) (n low high a b : ℤ) → AreEnds w c n low high a b → (x : ℤ) → IsBetween a b x ↔ (IsBetween low high x × CamStands w c n x)
part w c n low high a b e x =
    let over = above_both a low (first_angle w c (n -ℤ pos 1)) e.greater in
    let under = below_both b high (last_angle w c n) e.lesser in
    present_part w c n low high x a b e.some (greater a low (first_angle w c (n -ℤ pos 1)) x e.greater) over.0 over.1 (lesser b high (last_angle w c n) x e.lesser) under.0 under.1

-- the test that they are in order holds
in_order : (a b : ℤ) → le_z a b ≡ true → a ≤ℤ b
in_order a b h = grind (arith, ints)

-- or fails, and there is no angle
none_between : (a b x : ℤ) → le_z a b ≡ false → IsBetween a b x → ⊥
none_between a b x h k =
    let order : b <ℤ a = grind (arith, ints) in
    let low : a ≤ℤ x = k.0 in
    let high : x ≤ℤ b = k.1 in
    absurd (omega (arith, ints))

pub invariant_of-result : goal.invariant_of-result
invariant_of-result c =
    let low = c.args.span.low in
    let high = c.args.span.high in
    let e = ends c.args.wheel.now.parts c.args.cam c.args.next low high c.first_angle.result c.last_angle.result c.max-low.result c.min-high.result c.cam_count.result c.if-cam_count-eq0.false (c.cam_count.ensures.of_wheel c.args.wheel.now.parts c.requires.table) c.requires.small c.args.span.least c.args.span.some c.args.span.most c.first_angle.type_inv c.last_angle.type_inv c.max-low.type_inv c.min-high.type_inv c.first_angle.ensures c.last_angle.ensures c.max-low.ensures.value c.min-high.ensures.value in
    let over = above_both _ low _ e.greater in
    let under = below_both _ high _ e.lesser in
    record { some = in_order _ _ c.if-low-high.true; least = through c.args.span.least over.0; most = through under.0 c.args.span.most }
  where
    through : {a b c : ℤ} → a ≤ℤ b → b ≤ℤ c → a ≤ℤ c
    through {a} {b} {c} h k = omega (arith, ints)

pub returns-then-low-high : goal.returns-then-low-high
returns-then-low-high c =
    let low = c.args.span.low in
    let high = c.args.span.high in
    part c.args.wheel.now.parts c.args.cam c.args.next low high _ _ (ends c.args.wheel.now.parts c.args.cam c.args.next low high c.first_angle.result c.last_angle.result c.max-low.result c.min-high.result c.cam_count.result c.if-cam_count-eq0.false (c.cam_count.ensures.of_wheel c.args.wheel.now.parts c.requires.table) c.requires.small c.args.span.least c.args.span.some c.args.span.most c.first_angle.type_inv c.last_angle.type_inv c.max-low.type_inv c.min-high.type_inv c.first_angle.ensures c.last_angle.ensures c.max-low.ensures.value c.min-high.ensures.value)

pub returns-else-low-high : goal.returns-else-low-high
returns-else-low-high c = λ s.
    let low = c.args.span.low in
    let high = c.args.span.high in
    let e = ends c.args.wheel.now.parts c.args.cam c.args.next low high c.first_angle.result c.last_angle.result c.max-low.result c.min-high.result c.cam_count.result c.if-cam_count-eq0.false (c.cam_count.ensures.of_wheel c.args.wheel.now.parts c.requires.table) c.requires.small c.args.span.least c.args.span.some c.args.span.most c.first_angle.type_inv c.last_angle.type_inv c.max-low.type_inv c.min-high.type_inv c.first_angle.ensures c.last_angle.ensures c.max-low.ensures.value c.min-high.ensures.value in
    none_between _ _ s.0 c.if-low-high.false ((part c.args.wheel.now.parts c.args.cam c.args.next low high _ _ e s.0).1 s.1)
