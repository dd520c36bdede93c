use Rattle.std.proofs.Common.{◌≡◌, ℕ, ◌+◌, ◌*◌, ◌≤◌, ◌^◌, ℤ, pos, ◌+ℤ◌, ◌-ℤ◌, ◌≤ℤ◌, w64, to_z, of_z, sym, ◌∙◌, ap, subst, arith}
use Rattle.std.proofs.lemmas.Int.{ints, clamps}
use Rattle.std.specs.Int.{int_max}
use Rattle.std.specs.Prelude.{unsigned_abs}
use Rattle.rand_pcg.specs.Lcg.{Lcg}
use Rattle.wheel_types.specs.Edges.{angle_of, early_of, late_of, slot_count}
use Rattle.stimulus.specs.Draws.{drawn_angle}
use Rattle.stimulus.proofs.CamAngles.{drawn_angle_between}
use Rattle.stimulus.proofs.Phasings.{few_units}
use Rattle.stimulus.proofs.cam.draw_next.Goals as goal

max_small : (n f : ℤ) (e l : ℕ) → unsigned_abs n ≤ 2 ^ 57 → e + l ≤ 2 ^ 32 → f ≤ℤ (n +ℤ pos l) → unsigned_abs (int_max (n -ℤ pos e) f) ≤ 2 ^ 58
max_small n f e l h k m = omega (arith, ints, clamps, h, k, m)

max_before : (n f : ℤ) (e l : ℕ) → f ≤ℤ (n +ℤ pos l) → int_max (n -ℤ pos e) f ≤ℤ (n +ℤ pos l)
max_before n f e l m = omega (arith, ints, clamps, m)

high_small : (n : ℤ) (e l : ℕ) → unsigned_abs n ≤ 2 ^ 57 → e + l ≤ 2 ^ 32 → unsigned_abs (n +ℤ pos l) ≤ 2 ^ 58
high_small n e l h k = omega (arith, ints, h, k)

back : (x : ℤ) → unsigned_abs x ≤ 2 ^ 58 → to_z w64 (of_z w64 x) ≡ x
back x h = omega (arith, ints, h)

near : (a b : ℤ) → unsigned_abs a ≤ 2 ^ 58 → unsigned_abs b ≤ 2 ^ 58 → unsigned_abs (a -ℤ b) ≤ 2 ^ 59
near a b h k = omega (arith, ints, h, k)

least_is : (n r : ℤ) (e l : ℕ) → unsigned_abs n ≤ 2 ^ 57 → e + l ≤ 2 ^ 32 → r ≡ pos e → to_z w64 (of_z w64 (to_z w64 (of_z w64 n) -ℤ to_z w64 (of_z w64 r))) ≡ n -ℤ pos e
least_is n r e l h k q = omega (arith, ints, h, k, q)

greatest_is : (n r : ℤ) (e l : ℕ) → unsigned_abs n ≤ 2 ^ 57 → e + l ≤ 2 ^ 32 → r ≡ pos l → to_z w64 (of_z w64 (to_z w64 (of_z w64 n) +ℤ to_z w64 (of_z w64 r))) ≡ n +ℤ pos l
greatest_is n r e l h k q = omega (arith, ints, h, k, q)

-- what is known of the bounds
record Known (n f m r : ℤ) (e l : ℕ) : Type 0 where
  low : to_z w64 (of_z w64 m) ≡ int_max (n -ℤ pos e) f
  high : to_z w64 (of_z w64 (to_z w64 (of_z w64 n) +ℤ to_z w64 (of_z w64 r))) ≡ n +ℤ pos l
  some : int_max (n -ℤ pos e) f ≤ℤ (n +ℤ pos l)
  low_small : unsigned_abs (int_max (n -ℤ pos e) f) ≤ 2 ^ 58
  high_small : unsigned_abs (n +ℤ pos l) ≤ 2 ^ 58

known : (n f m q r : ℤ) (e l : ℕ) → unsigned_abs n ≤ 2 ^ 57 → e + l ≤ 2 ^ 32 → f ≤ℤ (n +ℤ pos l) → to_z w64 (of_z w64 f) ≡ f → q ≡ pos e → r ≡ pos l
    → m ≡ int_max (to_z w64 (of_z w64 (to_z w64 (of_z w64 n) -ℤ to_z w64 (of_z w64 q)))) (to_z w64 (of_z w64 f)) → Known n f m r e l
known n f m q r e l small few ahead same early late value =
    let is : m ≡ int_max (n -ℤ pos e) f = value ∙ ap (λ x. int_max x (to_z w64 (of_z w64 f))) (least_is n q e l small few early) ∙ ap (int_max (n -ℤ pos e)) same in
    let low_small = max_small n f e l small few ahead in
    record {
      low = ap (λ x. to_z w64 (of_z w64 x)) is ∙ back (int_max (n -ℤ pos e) f) low_small;
      high = greatest_is n r e l small few late;
      some = max_before n f e l ahead;
      low_small = low_small;
      high_small = high_small n e l small few;
    }

between : (a b x : ℤ) → a ≤ℤ x → x ≤ℤ b → unsigned_abs a ≤ 2 ^ 58 → unsigned_abs b ≤ 2 ^ 58 → unsigned_abs x ≤ 2 ^ 58
between a b x h k m n = omega (arith, ints, h, k, m, n)

drawn_small : (a b : ℤ) (g : Lcg) → a ≤ℤ b → unsigned_abs a ≤ 2 ^ 58 → unsigned_abs b ≤ 2 ^ 58 → unsigned_abs (drawn_angle a b g) ≤ 2 ^ 58
drawn_small a b g h k m = let d = drawn_angle_between a b g h in between a b (drawn_angle a b g) d.0 d.1 k m

pub draw_angle-requires-clause-some : goal.draw_angle-requires-clause-some
draw_angle-requires-clause-some c =
    let w = c.args.wheel.now.parts in
    let e = early_of w c.args.channel * slot_count w in
    let l = late_of w c.args.channel * slot_count w in
    let ahead : c.args.free ≤ℤ (angle_of w c.args.channel (pos c.args.edge) +ℤ pos l) = c.requires.some in
    let k = known c.angle-nominal.result c.args.free c.max.result c.phasing-early.result.0 c.phasing-early.result.1 e l c.angle-nominal.ensures.small
    (few_units w c.args.channel c.args.wheel.now.valid) (subst (λ x. c.args.free ≤ℤ (x +ℤ pos l)) (sym c.angle-nominal.ensures.value) ahead) (omega (arith, ints))
    c.phasing-early.ensures.early c.phasing-early.ensures.late c.max.ensures.value in
    subst (λ x. x ≤ℤ to_z w64 (of_z w64 (to_z w64 (of_z w64 c.angle-nominal.result) +ℤ to_z w64 (of_z w64 c.phasing-early.result.1)))) (sym k.low)
    (subst (λ x. int_max (c.angle-nominal.result -ℤ pos e) c.args.free ≤ℤ x) (sym k.high) k.some)

pub draw_angle-requires-clause-near : goal.draw_angle-requires-clause-near
draw_angle-requires-clause-near c =
    let w = c.args.wheel.now.parts in
    let e = early_of w c.args.channel * slot_count w in
    let l = late_of w c.args.channel * slot_count w in
    let ahead : c.args.free ≤ℤ (angle_of w c.args.channel (pos c.args.edge) +ℤ pos l) = c.requires.some in
    let k = known c.angle-nominal.result c.args.free c.max.result c.phasing-early.result.0 c.phasing-early.result.1 e l c.angle-nominal.ensures.small
    (few_units w c.args.channel c.args.wheel.now.valid) (subst (λ x. c.args.free ≤ℤ (x +ℤ pos l)) (sym c.angle-nominal.ensures.value) ahead) (omega (arith, ints))
    c.phasing-early.ensures.early c.phasing-early.ensures.late c.max.ensures.value in
    let h = near (c.angle-nominal.result +ℤ pos l) (int_max (c.angle-nominal.result -ℤ pos e) c.args.free) k.high_small k.low_small in
    rw (k.high, k.low) (omega (arith, h))

pub overflow_add-nominal : goal.overflow_add-nominal
overflow_add-nominal c =
    let w = c.args.wheel.now.parts in
    let few = few_units w c.args.channel c.args.wheel.now.valid in
    let late : c.phasing-early.result.1 ≡ pos (late_of w c.args.channel * slot_count w) = c.phasing-early.ensures.late in
    let small : unsigned_abs c.angle-nominal.result ≤ 2 ^ 57 = c.angle-nominal.ensures.small in
    omega (arith, ints, few, late, small)

pub returns-clause-value : goal.returns-clause-value
returns-clause-value c =
    let w = c.args.wheel.now.parts in
    let e = early_of w c.args.channel * slot_count w in
    let l = late_of w c.args.channel * slot_count w in
    let ahead : c.args.free ≤ℤ (angle_of w c.args.channel (pos c.args.edge) +ℤ pos l) = c.requires.some in
    let k = known c.angle-nominal.result c.args.free c.max.result c.phasing-early.result.0 c.phasing-early.result.1 e l c.angle-nominal.ensures.small
    (few_units w c.args.channel c.args.wheel.now.valid) (subst (λ x. c.args.free ≤ℤ (x +ℤ pos l)) (sym c.angle-nominal.ensures.value) ahead) (omega (arith, ints))
    c.phasing-early.ensures.early c.phasing-early.ensures.late c.max.ensures.value in
    let value : c.draw_angle.result ≡ drawn_angle (int_max (c.angle-nominal.result -ℤ pos e) c.args.free) (c.angle-nominal.result +ℤ pos l) c.args.generator.now =
    c.draw_angle.ensures.value ∙ ap (λ x. drawn_angle x (to_z w64 (of_z w64 (to_z w64 (of_z w64 c.angle-nominal.result) +ℤ to_z w64 (of_z w64 c.phasing-early.result.1)))) c.args.generator.now) k.low ∙ ap (λ x. drawn_angle (int_max (c.angle-nominal.result -ℤ pos e) c.args.free) x c.args.generator.now) k.high in
    let small = subst (λ x. unsigned_abs x ≤ 2 ^ 58) (sym value) (drawn_small _ _ c.args.generator.now k.some k.low_small k.high_small) in
    back c.draw_angle.result small ∙ value ∙ ap (λ x. drawn_angle (int_max (x -ℤ pos e) c.args.free) (x +ℤ pos l) c.args.generator.now) c.angle-nominal.ensures.value

pub returns-clause-small : goal.returns-clause-small
returns-clause-small c =
    let w = c.args.wheel.now.parts in
    let e = early_of w c.args.channel * slot_count w in
    let l = late_of w c.args.channel * slot_count w in
    let ahead : c.args.free ≤ℤ (angle_of w c.args.channel (pos c.args.edge) +ℤ pos l) = c.requires.some in
    let k = known c.angle-nominal.result c.args.free c.max.result c.phasing-early.result.0 c.phasing-early.result.1 e l c.angle-nominal.ensures.small
    (few_units w c.args.channel c.args.wheel.now.valid) (subst (λ x. c.args.free ≤ℤ (x +ℤ pos l)) (sym c.angle-nominal.ensures.value) ahead) (omega (arith, ints))
    c.phasing-early.ensures.early c.phasing-early.ensures.late c.max.ensures.value in
    let value : c.draw_angle.result ≡ drawn_angle (int_max (c.angle-nominal.result -ℤ pos e) c.args.free) (c.angle-nominal.result +ℤ pos l) c.args.generator.now =
    c.draw_angle.ensures.value ∙ ap (λ x. drawn_angle x (to_z w64 (of_z w64 (to_z w64 (of_z w64 c.angle-nominal.result) +ℤ to_z w64 (of_z w64 c.phasing-early.result.1)))) c.args.generator.now) k.low ∙ ap (λ x. drawn_angle (int_max (c.angle-nominal.result -ℤ pos e) c.args.free) x c.args.generator.now) k.high in
    let small = subst (λ x. unsigned_abs x ≤ 2 ^ 58) (sym value) (drawn_small _ _ c.args.generator.now k.some k.low_small k.high_small) in
    subst (λ x. unsigned_abs x ≤ 2 ^ 58) (sym (back c.draw_angle.result small)) small
