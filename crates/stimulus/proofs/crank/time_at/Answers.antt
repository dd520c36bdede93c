use Rattle.std.proofs.Common.{◌≡◌, ℕ, suc, ◌+◌, ◌-◌, ◌*◌, ◌/◌, ◌≤◌, ◌^◌, ℤ, ◌-ℤ◌, ◌≤ℤ◌, ◌<ℤ◌, w64, to_z, of_z, refl, sym, ◌∙◌, ap, subst, arith, add-one}
use Rattle.std.proofs.lemmas.Int.{ints}
use Rattle.std.proofs.Math.Nat.{div-le_self, mul-le-mul}
use Rattle.std.specs.Prelude.{unsigned_abs}
use Rattle.wheel_types.specs.declared.parts.WheelParts.{WheelParts}
use Rattle.wheel_types.specs.Wheels.{IsWheel}
use Rattle.stimulus.specs.declared.crank.CrankEdge.{CrankEdge}
use Rattle.stimulus.specs.Gaps.{crank_angle, crank_time, gap_time, gap_least, gap_greatest}
use Rattle.stimulus.specs.Cams.{IsInGap, time_in}
use Rattle.stimulus.specs.Cranks.{IsCrankEdge}
use Rattle.stimulus.proofs.GapTimes.{short}
use Rattle.stimulus.proofs.crank.time_at.Goals as goal

-- how far an angle is past another one
plain : (x a : ℤ) → unsigned_abs x ≤ 2 ^ 57 → unsigned_abs a ≤ 2 ^ 57 → unsigned_abs (to_z w64 (of_z w64 x) -ℤ to_z w64 (of_z w64 a)) ≡ unsigned_abs (x -ℤ a)
plain x a h k = omega (arith, ints, h, k)

between : (a x b : ℤ) → a ≤ℤ x → x <ℤ b → unsigned_abs a ≤ 2 ^ 57 → unsigned_abs b ≤ 2 ^ 57 → unsigned_abs x ≤ 2 ^ 57
between a x b h k m n = omega (arith, ints, h, k, m, n)

near : (a b : ℤ) → unsigned_abs a ≤ 2 ^ 57 → unsigned_abs b ≤ 2 ^ 57 → unsigned_abs (a -ℤ b) ≤ 2 ^ 58
near a b h k = omega (arith, ints, h, k)

-- what is known of the numbers of the code
record Known (w : WheelParts) (seed : ℕ) (from to : CrankEdge) (x : ℤ) (part width : ℕ) : Type 0 where
  part_is : part ≡ unsigned_abs (x -ℤ crank_angle w seed from.number)
  width_is : width ≡ unsigned_abs (crank_angle w seed (from.number + 1) -ℤ crank_angle w seed from.number)
  time_is : to.time - from.time ≡ gap_time w seed from.number
  few : (to.time - from.time) * part ≤ 2 ^ 115
  all : from.time + (to.time - from.time) * part / width ≤ 2 ^ 116

few_parts : (d p : ℕ) → d ≤ 2 ^ 57 → p ≤ 2 ^ 58 → d * p ≤ 2 ^ 115
few_parts d p h k = let m : d * p ≤ 2 ^ 57 * 2 ^ 58 = mul-le-mul {m₂ = 2 ^ 58} h k in omega (arith, m)

all_small : (n t p q : ℕ) → n ≤ 1000000 → t ≤ (n + 1) * 2 ^ 57 → p ≤ 2 ^ 115 → t + p / q ≤ 2 ^ 116
all_small n t p q h k m = let d : p / q ≤ p = div-le_self p q in omega (arith, h, k, m, d)

known : (w : WheelParts) (seed : ℕ) (from to : CrankEdge) (x : ℤ) (part width : ℕ) → IsWheel w → IsCrankEdge w seed from → IsCrankEdge w seed to → to.number ≡ suc from.number
    → IsInGap w seed from.number x → part ≡ unsigned_abs (to_z w64 (of_z w64 x) -ℤ to_z w64 (of_z w64 from.angle))
    → width ≡ unsigned_abs (to_z w64 (of_z w64 to.angle) -ℤ to_z w64 (of_z w64 from.angle)) → Known w seed from to x part width
known w seed from to x part width wheel f t next gap p q =
    let i = from.number in
    let start : from.angle ≡ crank_angle w seed i = f.angle in
    let end : to.angle ≡ crank_angle w seed (i + 1) = t.angle ∙ ap (crank_angle w seed) (next ∙ sym (add-one i)) in
    let low : from.angle ≤ℤ x = subst (λ z. z ≤ℤ x) (sym start) gap.from in
    let high : x <ℤ to.angle = subst (λ z. x <ℤ z) (sym end) gap.before in
    let small : unsigned_abs x ≤ 2 ^ 57 = between from.angle x to.angle low high f.small t.small in
    let timed : gap_least w seed i ≤ gap_greatest w seed i = t.timed i (omega (arith, next)) in
    let later : to.time ≡ crank_time w seed i + gap_time w seed i = t.time ∙ ap (crank_time w seed) next in
    let time : to.time - from.time ≡ gap_time w seed i = omega (arith, later, f.time) in
    let lasts : gap_time w seed i ≤ 2 ^ 57 = short w seed i wheel timed in
    let part_is : part ≡ unsigned_abs (x -ℤ from.angle) = p ∙ plain x from.angle small f.small in
    let width_is : width ≡ unsigned_abs (to.angle -ℤ from.angle) = q ∙ plain to.angle from.angle t.small f.small in
    let far : unsigned_abs (x -ℤ from.angle) ≤ 2 ^ 58 = near x from.angle small f.small in
    let few : (to.time - from.time) * part ≤ 2 ^ 115 = few_parts (to.time - from.time) part (omega (arith, time, lasts)) (omega (arith, part_is, far)) in
    record {
      part_is = part_is ∙ ap (λ z. unsigned_abs (x -ℤ z)) start;
      width_is = width_is ∙ ap (λ z. unsigned_abs (z -ℤ from.angle)) end ∙ ap (λ z. unsigned_abs (crank_angle w seed (i + 1) -ℤ z)) start;
      time_is = time;
      few = few;
      all = all_small from.number from.time ((to.time - from.time) * part) width f.few f.early few;
    }

same_time : (t t' d d' p p' q q' : ℕ) → t ≡ t' → d ≡ d' → p ≡ p' → q ≡ q' → t + d * p / q ≡ t' + d' * p' / q'
same_time t t' d d' p p' q q' e f g h = rw (e, f, g, h) refl

pub overflow_mul-result : goal.overflow_mul-result
overflow_mul-result c =
    let k = known c.args.wheel.now.parts c.args.plan.now.seed c.args.from c.args.to c.args.angle c.from-part.result c.from-width.result c.args.wheel.now.valid c.requires.from c.requires.to c.requires.next c.requires.gap (c.from-part.ensures ∙ c.abs_diff.ensures) (c.from-width.ensures ∙ c.abs_diff-2.ensures) in
    let h = k.few in
    omega (arith, h)

pub overflow_add-result : goal.overflow_add-result
overflow_add-result c =
    let k = known c.args.wheel.now.parts c.args.plan.now.seed c.args.from c.args.to c.args.angle c.from-part.result c.from-width.result c.args.wheel.now.valid c.requires.from c.requires.to c.requires.next c.requires.gap (c.from-part.ensures ∙ c.abs_diff.ensures) (c.from-width.ensures ∙ c.abs_diff-2.ensures) in
    let h = k.all in
    omega (arith, h)

pub overflow_cast-result : goal.overflow_cast-result
overflow_cast-result c =
    let k = known c.args.wheel.now.parts c.args.plan.now.seed c.args.from c.args.to c.args.angle c.from-part.result c.from-width.result c.args.wheel.now.valid c.requires.from c.requires.to c.requires.next c.requires.gap (c.from-part.ensures ∙ c.abs_diff.ensures) (c.from-width.ensures ∙ c.abs_diff-2.ensures) in
    let h = k.all in
    omega (arith, ints, h)

pub returns : goal.returns
returns c =
    let k = known c.args.wheel.now.parts c.args.plan.now.seed c.args.from c.args.to c.args.angle c.from-part.result c.from-width.result c.args.wheel.now.valid c.requires.from c.requires.to c.requires.next c.requires.gap (c.from-part.ensures ∙ c.abs_diff.ensures) (c.from-width.ensures ∙ c.abs_diff-2.ensures) in
    let h = k.all in
    let e : c.args.from.time + (c.args.to.time - c.args.from.time) * c.from-part.result / c.from-width.result ≡ time_in c.args.wheel.now.parts c.args.plan.now.seed c.args.from.number c.args.angle =
    same_time _ _ _ _ _ _ _ _ c.requires.from.time k.time_is k.part_is k.width_is in
    omega (arith, ints, h, e)
