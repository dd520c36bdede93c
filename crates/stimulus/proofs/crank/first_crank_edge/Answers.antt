use Rattle.std.proofs.Common.{◌≡◌, ℕ, ◌+◌, ◌-◌, ◌≤◌, ◌^◌, ℤ, pos, w64, to_z, of_z, refl, ◌∙◌, ap, arith}
use Rattle.std.proofs.lemmas.Int.{ints}
use Rattle.std.specs.Prelude.{unsigned_abs}
use Rattle.wheel_types.specs.declared.channel.Channel.TheVariants.{Crank}
use Rattle.wheel_types.specs.Edges.{edge_count, angle_of}
use Rattle.stimulus.specs.Draws.{drawn}
use Rattle.stimulus.specs.Gaps.{first_edge, gap_before}
use Rattle.stimulus.proofs.crank.first_crank_edge.Goals as goal

as_edge : (a b : ℕ) → a ≡ b → a ≡ b + 0
as_edge a b e = omega (arith, e)

back : (x : ℤ) → unsigned_abs x ≤ 2 ^ 57 → to_z w64 (of_z w64 x) ≡ x
back x h = omega (arith, ints, h)

back_small : (x : ℤ) → unsigned_abs x ≤ 2 ^ 57 → unsigned_abs (to_z w64 (of_z w64 x)) ≤ 2 ^ 57
back_small x h = omega (arith, ints, h)

pub returns-clause-edge : goal.returns-clause-edge
unfolding first_edge gap_before
returns-clause-edge c =
    let w = c.args.wheel.now.parts in
    let seed = c.args.plan.now.seed in
    let count : c.from.result ≡ edge_count w Crank = c.from.ensures ∙ c.crank_count.ensures.of_wheel w c.requires.plan.table in
    let first : c.draw-edge.result ≡ first_edge w seed =
    c.draw-edge.ensures.value ∙ ap (λ n. drawn 0 (n - 1) c.args.generator.now) count ∙ ap (drawn 0 (edge_count w Crank - 1)) c.requires.generator in
    let edge : c.draw-edge.result ≡ first_edge w seed + 0 = as_edge c.draw-edge.result (first_edge w seed) first in
    record {
      few = omega arith;
      edge = edge;
      angle = back c.angle.result c.angle.ensures.small ∙ c.angle.ensures.value ∙ ap (λ n. angle_of w Crank (pos n)) edge;
      small = back_small c.angle.result c.angle.ensures.small;
      time = refl;
      early = omega arith;
      before = refl;
      limits = tt;
      timed = λ j h. absurd (omega (arith, h));
    }
