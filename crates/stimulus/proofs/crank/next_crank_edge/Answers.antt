use Rattle.std.proofs.Common.{◌≡◌, ℕ, suc, ◌+◌, ◌*◌, ◌<◌, ◌≤◌, ◌⊎◌, inl, inr, ◌^◌, ℤ, pos, w64, to_z, of_z, refl, sym, ◌∙◌, ap, subst, arith, add-one}
use Rattle.std.proofs.lemmas.Int.{ints}
use Rattle.std.specs.Prelude.{Option, Some, unsigned_abs}
use Rattle.rand_pcg.specs.Lcg.{Lcg}
use Rattle.wheel_types.specs.declared.channel.Channel.TheVariants.{Crank}
use Rattle.wheel_types.specs.declared.parts.WheelParts.{WheelParts}
use Rattle.wheel_types.specs.Wheels.{IsWheel}
use Rattle.wheel_types.specs.Edges.{edge_count, angle_of, slot_count}
use Rattle.wheel_types.specs.Speeds.{KeepsSpeed, slots_between}
use Rattle.stimulus.specs.Draws.{drawn, before_draw, generator_of}
use Rattle.stimulus.specs.Gaps.{Gap, first_edge, crank_time, gap_before, gap_slots, gap_time, gap_least, gap_greatest, least_after, greatest_after, HasTimes}
use Rattle.stimulus.specs.GapsOf.{gap_of}
use Rattle.edge_angles.proofs.Tables.{edge_count-few}
use Rattle.stimulus.proofs.Beginnings.{first_within}
use Rattle.stimulus.proofs.CrankMoves.{split}
use Rattle.stimulus.proofs.GapTimes.{small}
use Rattle.stimulus.proofs.KeptLimits.{keeps_speed}
use Rattle.stimulus.proofs.Times.{drawn_between}
use Rattle.stimulus.proofs.crank.next_crank_edge.Goals as goal

back : (x : ℤ) → unsigned_abs x ≤ 2 ^ 57 → to_z w64 (of_z w64 x) ≡ x
back x h = omega (arith, ints, h)

back_small : (x : ℤ) → unsigned_abs x ≤ 2 ^ 57 → unsigned_abs (to_z w64 (of_z w64 x)) ≤ 2 ^ 57
back_small x h = omega (arith, ints, h)

pub angle-requires-clause-few : goal.angle-requires-clause-few
angle-requires-clause-few c =
    let w = c.args.wheel.now.parts in
    let first : first_edge w c.args.plan.now.seed < edge_count w Crank = first_within w c.args.plan.now.seed c.args.wheel.now.valid in
    let all : edge_count w Crank ≤ slot_count w = edge_count-few w Crank in
    let few : slot_count w ≤ 4096 = c.args.wheel.now.valid.slots.1 in
    let e : c.args.last.edge ≡ first_edge w c.args.plan.now.seed + c.args.last.number = c.requires.edge.edge in
    let most : c.args.plan.now.gaps ≤ 1000000 = c.requires.plan.few_gaps in
    let within : c.args.last.number < c.args.plan.now.gaps = c.requires.within in
    omega (arith, first, all, few, e, most, within)

same_time : (w : WheelParts) (b b' : Option Gap) (s s' : ℕ) (g g' : Lcg) (t : ℕ) → t ≡ drawn (least_after w b s) (greatest_after w b s) g → b ≡ b' → s ≡ s' → g ≡ g'
    → t ≡ drawn (least_after w b' s') (greatest_after w b' s') g'
same_time w b b' s s' g g' t e p q r =
    e ∙ ap (λ x. drawn (least_after w x s) (greatest_after w x s) g) p ∙ ap (λ n. drawn (least_after w b' n) (greatest_after w b' n) g) q
    ∙ ap (drawn (least_after w b' s') (greatest_after w b' s')) r

same_limits : (w : WheelParts) (b b' : Option Gap) (s s' : ℕ) → least_after w b s ≤ greatest_after w b s → b ≡ b' → s ≡ s' → least_after w b' s' ≤ greatest_after w b' s'
same_limits w b b' s s' h p q = subst (λ n. least_after w b' n ≤ greatest_after w b' n) q (subst (λ x. least_after w x s ≤ greatest_after w x s) p h)

abbrev kept : ℕ → ℕ → Option Gap
kept s t = Some (record { slots = s; time = t })

same_gap : (s s' t t' : ℕ) → s ≡ s' → t ≡ t' → kept s t ≡ Some (record { slots = s'; time = t' })
same_gap s s' t t' p q = rw (p, q) refl

drawn_small : (w : WheelParts) (b : Option Gap) (s t : ℕ) (g : Lcg) → t ≡ drawn (least_after w b s) (greatest_after w b s) g → least_after w b s ≤ greatest_after w b s
    → greatest_after w b s ≤ 2 ^ 57 → t ≤ 2 ^ 57
drawn_small w b s t g e h k = let d = (drawn_between (least_after w b s) (greatest_after w b s) g h).1 in omega (arith, e, d, k)

more_times : (w : WheelParts) (seed i : ℕ) → HasTimes w seed i → gap_least w seed i ≤ gap_greatest w seed i → HasTimes w seed (i + 1)
more_times w seed i before here j h = by (split j i (omega (arith, h)))
  where
    by : (j < i) ⊎ (j ≡ i) → gap_least w seed j ≤ gap_greatest w seed j
    by (inl l) = before j l
    by (inr e) = subst (λ n. gap_least w seed n ≤ gap_greatest w seed n) (sym e) here

edge_after : (a b i : ℕ) → a ≡ b + i → a + 1 ≡ b + (i + 1)
edge_after a b i e = omega (arith, e)

time_after : (w : WheelParts) (seed i t g : ℕ) → t ≡ crank_time w seed i → g ≡ gap_time w seed i → t + g ≡ crank_time w seed (i + 1)
time_after w seed i t g e f = rw (add-one i) (omega (arith, e, f))

early_after : (i t g : ℕ) → t ≤ (i + 1) * 2 ^ 57 → g ≤ 2 ^ 57 → t + g ≤ (i + 1 + 1) * 2 ^ 57
early_after i t g h k = omega (arith, h, k)

before_after : (w : WheelParts) (seed i s t : ℕ) → s ≡ gap_slots w seed i → t ≡ gap_time w seed i → kept s t ≡ gap_before w seed (i + 1)
unfolding gap_before
before_after w seed i s t e f = rw (add-one i) (same_gap s (gap_slots w seed i) t (gap_time w seed i) e f)

pub returns-clause-edge : goal.returns-clause-edge
returns-clause-edge c =
    let w = c.args.wheel.now.parts in
    let wheel : IsWheel w = c.args.wheel.now.valid in
    let seed = c.args.plan.now.seed in
    let i = c.args.last.number in
    let r = c.requires.edge in
    let s = c.slots_after-slots.result in
    let b = gap_of c.args.last.before in
    let edge : c.args.last.edge + 1 ≡ first_edge w seed + (i + 1) = edge_after c.args.last.edge (first_edge w seed) i r.edge in
    let slots : s ≡ gap_slots w seed i =
    c.slots_after-slots.ensures.value ∙ ap (λ n. slots_between w (pos n) (pos (c.args.last.edge + 1))) r.edge ∙ ap (λ n. slots_between w (pos (first_edge w seed + i)) (pos n)) edge in
    let time : c.in_ok-time.time ≡ gap_time w seed i =
    same_time w b (gap_before w seed i) s (gap_slots w seed i) c.args.generator.now (before_draw (generator_of seed 0) (suc i)) c.in_ok-time.time c.in_ok-time.ensures.time r.before slots c.requires.generator in
    let timed : gap_least w seed i ≤ gap_greatest w seed i = same_limits w b (gap_before w seed i) s (gap_slots w seed i) c.in_ok-time.ensures.some r.before slots in
    let short : c.in_ok-time.time ≤ 2 ^ 57 = drawn_small w b s c.in_ok-time.time c.args.generator.now c.in_ok-time.ensures.time c.in_ok-time.ensures.some (small w b s wheel c.slots_after-slots.ensures.of_wheel) in
    let most : c.args.plan.now.gaps ≤ 1000000 = c.requires.plan.few_gaps in
    let within : i < c.args.plan.now.gaps = c.requires.within in
    record {
      few = omega (arith, most, within);
      edge = edge;
      angle = back c.angle.result c.angle.ensures.small ∙ c.angle.ensures.value ∙ ap (λ n. angle_of w Crank (pos n)) edge;
      small = back_small c.angle.result c.angle.ensures.small;
      time = ap (λ n. c.args.last.time + n) c.from.ensures ∙ time_after w seed i c.args.last.time c.in_ok-time.time r.time time;
      early = subst (λ n. c.args.last.time + n ≤ (i + 1 + 1) * 2 ^ 57) (sym c.from.ensures) (early_after i c.args.last.time c.in_ok-time.time r.early short);
      before = before_after w seed i s c.in_ok-time.time slots time;
      limits = record {
        some = c.slots_after-slots.ensures.some;
        speed = subst (λ n. KeepsSpeed w n c.in_ok-time.time) (sym slots) (subst (KeepsSpeed w (gap_slots w seed i)) (sym time) (keeps_speed w seed i wheel timed));
      };
      timed = more_times w seed i r.timed timed;
    }
