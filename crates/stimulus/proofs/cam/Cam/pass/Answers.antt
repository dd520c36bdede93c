use Rattle.std.proofs.Common.{◌≡◌, ℕ, suc, ◌+◌, ◌<◌, ◌≤◌, ◌⊎◌, inl, inr, ◌^◌, ℤ, pos, ◌+ℤ◌, ◌≤ℤ◌, ◌<ℤ◌, w64, to_z, of_z, sym, ◌∙◌, ap, subst, arith, add-one}
use Rattle.std.proofs.lemmas.Int.{ints}
use Rattle.std.specs.Int.{int_max}
use Rattle.std.specs.Prelude.{Option, Some, None, IfSome, unsigned_abs}
use Rattle.rand_pcg.specs.Lcg.{Lcg}
use Rattle.wheel_types.specs.declared.channel.Channel.{Channel}
use Rattle.wheel_types.specs.declared.parts.WheelParts.{WheelParts}
use Rattle.wheel_types.specs.Wheels.{IsWheel}
use Rattle.wheel_types.specs.Edges.{edge_count, first_angle, last_angle, slot_count}
use Rattle.edge_angles.proofs.Tables.{edge_count-few}
use Rattle.stimulus.specs.declared.cam.Cam.{Cam}
use Rattle.stimulus.specs.Draws.{after_draw, before_draw, drawn_angle, generator_of}
use Rattle.stimulus.specs.Cams.{cam_angle, cam_edge, edges_before, free_from, stream_of}
use Rattle.stimulus.specs.CamsOf.{IsCam}
use Rattle.stimulus.proofs.Beginnings.{counts}
use Rattle.stimulus.proofs.CamAngles.{cam_later, drawn_in_range}
use Rattle.stimulus.proofs.cam.Cam.pass.Goals as goal

some_or_none : (n : ℕ) → (0 < n) ⊎ (n ≡ 0)
some_or_none n = grind arith

same_some : (o : Option ℤ) (x y : ℤ) → o ≡ Some x → o ≡ Some y → x ≡ y
same_some o x y e f = cc

no_some : {P : Type 0} (o : Option ℤ) (x : ℤ) → o ≡ Some x → o ≡ None → P
no_some o x e f = cc

one_less : (a b c : ℤ) → a ≡ b → (b +ℤ pos 1) ≤ℤ c → a <ℤ c
one_less a b c e h = omega (arith, ints, e, h)

one_more : (a : ℤ) → unsigned_abs a ≤ 2 ^ 58 → to_z w64 (of_z w64 (to_z w64 (of_z w64 a) +ℤ pos 1)) ≡ a +ℤ pos 1
one_more a h = omega (arith, ints, h)

back : (x : ℤ) → unsigned_abs x ≤ 2 ^ 58 → to_z w64 (of_z w64 x) ≡ x
back x h = omega (arith, ints, h)

until : (a b c d : ℤ) → a ≡ b → (b +ℤ pos 1) ≤ℤ c → c ≤ℤ d → (a +ℤ pos 1) ≤ℤ d
until a b c d e h k = omega (arith, ints, e, h, k)

-- what is known of a cam with a next edge at the angle
record Known (w : WheelParts) (c : Channel) (seed : ℕ) (cam : Cam) (x : ℤ) : Type 0 where
  some : 0 < edge_count w c
  at : x ≡ cam_angle w c seed cam.passed
  small : unsigned_abs x ≤ 2 ^ 58
  few : cam.first ≤ 4096

known : (w : WheelParts) (c : Channel) (seed : ℕ) (cam : Cam) (x : ℤ) → IsWheel w → IsCam w c seed cam → cam.next ≡ Some x → Known w c seed cam x
known w c seed cam x wheel is at = by (some_or_none (edge_count w c))
  where
    by : (0 < edge_count w c) ⊎ (edge_count w c ≡ 0) → Known w c seed cam x
    by (inr e) = no_some cam.next x at (is.absent e)
    by (inl h) =
        let a = (counts w c seed).within in
        let b : edge_count w c ≤ slot_count w = edge_count-few w c in
        record {
          some = h;
          at = same_some cam.next x (cam_angle w c seed cam.passed) at (is.next h);
          small = subst (λ o. IfSome o (λ y. unsigned_abs y ≤ 2 ^ 58)) at is.small;
          few = omega (arith, a, b, is.first, wheel.slots.1);
        }

-- the next edge's number
edge_after : (f b k n : ℕ) → f ≡ b → n ≡ k → f + n + 1 ≡ b + suc k
edge_after f b k n e g = omega (arith, e, g)

next_angle : (w : WheelParts) (c : Channel) (seed k n : ℕ) (x r : ℤ) (g : Lcg) → r ≡ drawn_angle (int_max (first_angle w c (pos n)) (x +ℤ pos 1)) (last_angle w c (pos n)) g
    → x ≡ cam_angle w c seed k → n ≡ edges_before w c seed + suc k → g ≡ before_draw (generator_of seed (stream_of c)) (suc k) → r ≡ cam_angle w c seed (suc k)
unfolding free_from
next_angle w c seed k n x r g e at number generator =
    e ∙ ap (λ y. drawn_angle (int_max (first_angle w c (pos n)) (y +ℤ pos 1)) (last_angle w c (pos n)) g) at
    ∙ ap (λ m. drawn_angle (int_max (first_angle w c (pos m)) (cam_angle w c seed k +ℤ pos 1)) (last_angle w c (pos m)) g) number
    ∙ ap (drawn_angle (int_max (first_angle w c (cam_edge w c seed (suc k))) (cam_angle w c seed k +ℤ pos 1)) (last_angle w c (cam_edge w c seed (suc k)))) generator

pub overflow_add-edge : goal.overflow_add-edge
overflow_add-edge c =
    let k = known c.args.wheel.now.parts c.args.channel c.args.plan.now.seed c.args.self.now c.args.angle c.args.wheel.now.valid c.requires.cam c.requires.at in
    let few = k.few in
    let n : c.from.result ≡ c.args.self.now.passed = c.from.ensures in
    let most : c.args.self.now.passed ≤ 4000000 = c.requires.few in
    omega (arith, few, n, most)

pub overflow_add-edge-2 : goal.overflow_add-edge-2
overflow_add-edge-2 c =
    let k = known c.args.wheel.now.parts c.args.channel c.args.plan.now.seed c.args.self.now c.args.angle c.args.wheel.now.valid c.requires.cam c.requires.at in
    let few = k.few in
    let n : c.from.result ≡ c.args.self.now.passed = c.from.ensures in
    let most : c.args.self.now.passed ≤ 4000000 = c.requires.few in
    omega (arith, few, n, most)

pub draw_next-next-requires-clause-few : goal.draw_next-next-requires-clause-few
draw_next-next-requires-clause-few c =
    let k = known c.args.wheel.now.parts c.args.channel c.args.plan.now.seed c.args.self.now c.args.angle c.args.wheel.now.valid c.requires.cam c.requires.at in
    let few = k.few in
    let n : c.from.result ≡ c.args.self.now.passed = c.from.ensures in
    let most : c.args.self.now.passed ≤ 4000000 = c.requires.few in
    omega (arith, few, n, most)

pub draw_next-next-requires-clause-some : goal.draw_next-next-requires-clause-some
draw_next-next-requires-clause-some c =
    let w = c.args.wheel.now.parts in
    let seed = c.args.plan.now.seed in
    let d = c.args.channel in
    let p = c.args.self.now.passed in
    let k = known w d seed c.args.self.now c.args.angle c.args.wheel.now.valid c.requires.cam c.requires.at in
    let number = edge_after c.args.self.now.first (edges_before w d seed) p c.from.result c.requires.cam.first c.from.ensures in
    subst (λ x. x ≤ℤ last_angle w d (pos (c.args.self.now.first + c.from.result + 1))) (sym (one_more c.args.angle k.small))
    (subst (λ n. (c.args.angle +ℤ pos 1) ≤ℤ last_angle w d (pos n)) (sym number)
    (until c.args.angle (cam_angle w d seed p) (cam_angle w d seed (suc p)) (last_angle w d (cam_edge w d seed (suc p))) k.at (cam_later w d seed p c.args.wheel.now.valid k.some)
    (drawn_in_range w d seed (suc p) c.args.wheel.now.valid k.some).last))

absent : {P : Type 0} (n : ℕ) → 0 < n → n ≡ 0 → P
absent n h e = absurd (omega (arith, h, e))

pub returns-clause-cam : goal.returns-clause-cam
returns-clause-cam c =
    let w = c.args.wheel.now.parts in
    let seed = c.args.plan.now.seed in
    let d = c.args.channel in
    let p = c.args.self.now.passed in
    let g = c.args.self.now.generator in
    let k = known w d seed c.args.self.now c.args.angle c.args.wheel.now.valid c.requires.cam c.requires.at in
    let n = c.args.self.now.first + c.from.result + 1 in
    let number : n ≡ edges_before w d seed + suc p = edge_after c.args.self.now.first (edges_before w d seed) p c.from.result c.requires.cam.first c.from.ensures in
    let value : c.draw_next-next.result ≡ drawn_angle (int_max (first_angle w d (pos n)) (c.args.angle +ℤ pos 1)) (last_angle w d (pos n)) g =
    c.draw_next-next.ensures.value ∙ ap (λ x. drawn_angle (int_max (first_angle w d (pos n)) x) (last_angle w d (pos n)) g) (one_more c.args.angle k.small) in
    let next : c.draw_next-next.result ≡ cam_angle w d seed (suc p) = next_angle w d seed p n c.args.angle c.draw_next-next.result g value k.at number (c.requires.cam.generator k.some) in
    record {
      first = c.requires.cam.first;
      absent = λ e. absent (edge_count w d) k.some e;
      next = λ _. ap Some (back c.draw_next-next.result c.draw_next-next.ensures.small ∙ next ∙ ap (cam_angle w d seed) (sym (add-one p)));
      small = subst (λ x. unsigned_abs x ≤ 2 ^ 58) (sym (back c.draw_next-next.result c.draw_next-next.ensures.small)) c.draw_next-next.ensures.small;
      generator = λ _. c.draw_next-next.ensures.after ∙ ap after_draw (c.requires.cam.generator k.some) ∙ ap (λ i. before_draw (generator_of seed (stream_of d)) (suc i)) (sym (add-one p));
    }

pub returns-clause-clear : goal.returns-clause-clear
returns-clause-clear c =
    let w = c.args.wheel.now.parts in
    let seed = c.args.plan.now.seed in
    let d = c.args.channel in
    let p = c.args.self.now.passed in
    let k = known w d seed c.args.self.now c.args.angle c.args.wheel.now.valid c.requires.cam c.requires.at in
    subst (λ n. c.args.angle <ℤ cam_angle w d seed n) (sym (add-one p)) (one_less c.args.angle (cam_angle w d seed p) (cam_angle w d seed (suc p)) k.at (cam_later w d seed p c.args.wheel.now.valid k.some))
