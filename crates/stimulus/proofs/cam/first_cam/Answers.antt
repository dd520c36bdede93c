use Rattle.std.proofs.Common.{◌≡◌, ℕ, ◌+◌, ◌<◌, ◌≤◌, ◌^◌, length, ℤ, pos, ◌≤ℤ◌, w64, to_z, of_z, refl, sym, ◌∙◌, ap, subst, arith}
use Rattle.std.proofs.lemmas.Int.{ints}
use Rattle.std.proofs.lemmas.List.{length-map}
use Rattle.std.specs.Int.{int_max}
use Rattle.std.specs.Prelude.{Some, filter, nat_lt, slice_index, unsigned_abs}
use Rattle.rand_pcg.specs.Lcg.{Lcg}
use Rattle.wheel_types.specs.declared.channel.Channel.{Channel}
use Rattle.wheel_types.specs.declared.channel.Channel.TheVariants.{Crank}
use Rattle.wheel_types.specs.declared.parts.WheelParts.{WheelParts}
use Rattle.wheel_types.specs.Wheels.{IsWheel}
use Rattle.wheel_types.specs.Edges.{edge_count, edge_slots, first_angle, last_angle, slot_count}
use Rattle.edge_angles.specs.EdgeTables.{edge_from}
use Rattle.edge_angles.proofs.Tables.{edge_count-few}
use Rattle.stimulus.specs.Draws.{after_draw, drawn_angle, generator_of}
use Rattle.stimulus.specs.Gaps.{crank_angle, first_edge}
use Rattle.stimulus.specs.Cams.{cam_angle, cam_edge, edges_before, free_from, stream_of}
use Rattle.stimulus.proofs.Beginnings.{counts, first_within}
use Rattle.stimulus.proofs.CamAngles.{is_free}
use Rattle.stimulus.proofs.cam.first_cam.Goals as goal

as_edge : (a b n : ℕ) → a ≡ b + n → n ≡ 0 → a ≡ b
as_edge a b n e f = omega (arith, e, f)

-- the first crank edge is one of the first cycle, of which there are few
few : (w : WheelParts) (seed e : ℕ) → IsWheel w → e ≡ first_edge w seed → (e < edge_count w Crank) × (e < 4096)
few w seed e wheel h =
    let a = first_within w seed wheel in
    let b : edge_count w Crank ≤ slot_count w = edge_count-few w Crank in
    (omega (arith, a, h), omega (arith, a, b, h, wheel.slots.1))

few_first : (w : WheelParts) (c : Channel) (seed n : ℕ) → IsWheel w → n ≡ edges_before w c seed → n ≤ 4096
few_first w c seed n wheel h =
    let a = (counts w c seed).within in
    let b : edge_count w c ≤ slot_count w = edge_count-few w c in
    omega (arith, a, b, h, wheel.slots.1)

first_is : (w : WheelParts) (c : Channel) (seed n slot e : ℕ) → n ≡ length (filter (λ k. nat_lt k slot) (edge_slots w c)) → slot ≡ slice_index (edge_slots w Crank) e → e ≡ first_edge w seed
    → n ≡ edges_before w c seed
unfolding edges_before
first_is w c seed n slot e h k m = h ∙ ap (λ s. length (filter (λ i. nat_lt i s) (edge_slots w c))) (k ∙ ap (slice_index (edge_slots w Crank)) m)

back : (x : ℤ) → unsigned_abs x ≤ 2 ^ 58 → to_z w64 (of_z w64 x) ≡ x
back x h = omega (arith, ints, h)

back_angle : (x : ℤ) → unsigned_abs x ≤ 2 ^ 57 → to_z w64 (of_z w64 x) ≡ x
back_angle x h = omega (arith, ints, h)

free : (w : WheelParts) (c : Channel) (seed n : ℕ) (x : ℤ) → IsWheel w → 0 < edge_count w c → n ≡ edges_before w c seed → x ≡ crank_angle w seed 0 → x ≤ℤ last_angle w c (pos n)
unfolding free_from
free w c seed n x wheel some e h =
    subst (λ z. z ≤ℤ last_angle w c (pos n)) (sym h)
    (subst (λ i. crank_angle w seed 0 ≤ℤ last_angle w c (pos i)) (at_first n (edges_before w c seed) e) (is_free w c seed 0 wheel some))
  where
    at_first : (a b : ℕ) → a ≡ b → b + 0 ≡ a
    at_first a b e = omega (arith, e)

next_angle : (w : WheelParts) (c : Channel) (seed n : ℕ) (x r : ℤ) (g : Lcg) → r ≡ drawn_angle (int_max (first_angle w c (pos n)) x) (last_angle w c (pos n)) g
    → x ≡ crank_angle w seed 0 → n ≡ edges_before w c seed → g ≡ generator_of seed (stream_of c) → r ≡ cam_angle w c seed 0
unfolding free_from
next_angle w c seed n x r g e at number generator =
    e ∙ ap (λ y. drawn_angle (int_max (first_angle w c (pos n)) y) (last_angle w c (pos n)) g) at
    ∙ ap (λ m. drawn_angle (int_max (first_angle w c (pos m)) (crank_angle w seed 0)) (last_angle w c (pos m)) g) (from_first n (edges_before w c seed) number)
    ∙ ap (drawn_angle (int_max (first_angle w c (cam_edge w c seed 0)) (crank_angle w seed 0)) (last_angle w c (cam_edge w c seed 0))) generator
  where
    from_first : (a b : ℕ) → a ≡ b → a ≡ b + 0
    from_first a b e = omega (arith, e)

absent : {P : Type 0} (n : ℕ) → 0 < n → n ≡ 0 → P
absent n h e = absurd (omega (arith, h, e))

pub overflow_cast-from : goal.overflow_cast-from
overflow_cast-from c =
    let w = c.args.wheel.now.parts in
    let h = (few w c.args.plan.now.seed c.args.from.edge c.args.wheel.now.valid (as_edge c.args.from.edge (first_edge w c.args.plan.now.seed) c.args.from.number c.requires.edge.edge c.requires.first)).1 in
    omega (arith, h)

pub crank_slot-slot-requires : goal.crank_slot-slot-requires
crank_slot-slot-requires c =
    let w = c.args.wheel.now.parts in
    let h = (few w c.args.plan.now.seed c.args.from.edge c.args.wheel.now.valid (as_edge c.args.from.edge (first_edge w c.args.plan.now.seed) c.args.from.number c.requires.edge.edge c.requires.first)).0 in
    subst (λ n. c.args.from.edge < n) (sym (ap length (c.requires.plan.table.edges Crank) ∙ length-map (edge_slots w Crank) (edge_from w Crank))) h

pub draw_next-next-requires-clause-few : goal.draw_next-next-requires-clause-few
draw_next-next-requires-clause-few c =
    let w = c.args.wheel.now.parts in
    let seed = c.args.plan.now.seed in
    let d = c.args.channel in
    let first : c.from-first.result ≡ edges_before w d seed =
    first_is w d seed c.from-first.result c.crank_slot-slot.result c.args.from.edge (c.from-first.ensures ∙ c.edges_before.ensures w c.requires.plan.table)
    (c.crank_slot-slot.ensures.of_wheel w c.requires.plan.table) (as_edge c.args.from.edge (first_edge w seed) c.args.from.number c.requires.edge.edge c.requires.first) in
    let h = few_first w d seed c.from-first.result c.args.wheel.now.valid first in
    omega (arith, h)

pub draw_next-next-requires-clause-some : goal.draw_next-next-requires-clause-some
draw_next-next-requires-clause-some c =
    let w = c.args.wheel.now.parts in
    let seed = c.args.plan.now.seed in
    let d = c.args.channel in
    let first : c.from-first.result ≡ edges_before w d seed =
    first_is w d seed c.from-first.result c.crank_slot-slot.result c.args.from.edge (c.from-first.ensures ∙ c.edges_before.ensures w c.requires.plan.table)
    (c.crank_slot-slot.ensures.of_wheel w c.requires.plan.table) (as_edge c.args.from.edge (first_edge w seed) c.args.from.number c.requires.edge.edge c.requires.first) in
    let count : c.cam_count.result ≡ edge_count w d = c.cam_count.ensures.of_wheel w c.requires.plan.table in
    let some : 0 < edge_count w d = omega (arith, count, c.if-cam_count-eq0.false) in
    let angle : c.args.from.angle ≡ crank_angle w seed 0 = c.requires.edge.angle ∙ ap (crank_angle w seed) c.requires.first in
    subst (λ x. x ≤ℤ last_angle w d (pos c.from-first.result)) (sym (back_angle c.args.from.angle c.requires.edge.small)) (free w d seed c.from-first.result c.args.from.angle c.args.wheel.now.valid some first angle)

pub returns-then-cam_count-eq0-clause-cam : goal.returns-then-cam_count-eq0-clause-cam
returns-then-cam_count-eq0-clause-cam c =
    let w = c.args.wheel.now.parts in
    let seed = c.args.plan.now.seed in
    let d = c.args.channel in
    let first : c.from-first.result ≡ edges_before w d seed =
    first_is w d seed c.from-first.result c.crank_slot-slot.result c.args.from.edge (c.from-first.ensures ∙ c.edges_before.ensures w c.requires.plan.table)
    (c.crank_slot-slot.ensures.of_wheel w c.requires.plan.table) (as_edge c.args.from.edge (first_edge w seed) c.args.from.number c.requires.edge.edge c.requires.first) in
    let none : edge_count w d ≡ 0 = sym (c.cam_count.ensures.of_wheel w c.requires.plan.table) ∙ c.if-cam_count-eq0.true in
    record {
      first = first;
      absent = λ _. refl;
      next = λ h. absent (edge_count w d) h none;
      small = tt;
      generator = λ h. absent (edge_count w d) h none;
    }

pub returns-clause-cam : goal.returns-clause-cam
returns-clause-cam c =
    let w = c.args.wheel.now.parts in
    let seed = c.args.plan.now.seed in
    let d = c.args.channel in
    let first : c.from-first.result ≡ edges_before w d seed =
    first_is w d seed c.from-first.result c.crank_slot-slot.result c.args.from.edge (c.from-first.ensures ∙ c.edges_before.ensures w c.requires.plan.table)
    (c.crank_slot-slot.ensures.of_wheel w c.requires.plan.table) (as_edge c.args.from.edge (first_edge w seed) c.args.from.number c.requires.edge.edge c.requires.first) in
    let count : c.cam_count.result ≡ edge_count w d = c.cam_count.ensures.of_wheel w c.requires.plan.table in
    let some : 0 < edge_count w d = omega (arith, count, c.if-cam_count-eq0.false) in
    let angle : c.args.from.angle ≡ crank_angle w seed 0 = c.requires.edge.angle ∙ ap (crank_angle w seed) c.requires.first in
    let generator : c.generator-generator.result ≡ generator_of seed (stream_of d) = c.generator-generator.ensures ∙ ap (generator_of seed) c.stream.ensures in
    let value : c.draw_next-next.result ≡ drawn_angle (int_max (first_angle w d (pos c.from-first.result)) c.args.from.angle) (last_angle w d (pos c.from-first.result)) c.generator-generator.result =
    c.draw_next-next.ensures.value ∙ ap (λ x. drawn_angle (int_max (first_angle w d (pos c.from-first.result)) x) (last_angle w d (pos c.from-first.result)) c.generator-generator.result) (back_angle c.args.from.angle c.requires.edge.small) in
    let next = next_angle w d seed c.from-first.result c.args.from.angle c.draw_next-next.result c.generator-generator.result value angle first generator in
    record {
      first = first;
      absent = λ e. absent (edge_count w d) some e;
      next = λ _. ap Some (back c.draw_next-next.result c.draw_next-next.ensures.small ∙ next);
      small = subst (λ x. unsigned_abs x ≤ 2 ^ 58) (sym (back c.draw_next-next.result c.draw_next-next.ensures.small)) c.draw_next-next.ensures.small;
      generator = λ _. c.draw_next-next.ensures.after ∙ ap after_draw generator;
    }
