use Rattle.std.proofs.Common.{◌≡◌, ℕ, ◌%◌, ◌<◌, pos, ◌∙◌, ap, arith}
use Rattle.std.proofs.Math.Nat.{mod-eq_of_lt}
use Rattle.std.specs.Prelude.{slice_index}
use Rattle.wheel_types.specs.Edges.{edge_count, edge_slots, level_of, pol_of, pol_to}
use Rattle.stimulus.proofs.angle.polarity.Goals as goal

rest_below : (n k : ℕ) → 0 < k → n % k < k
rest_below n k h = omega (arith, h)

pub returns : goal.returns
returns c =
    let w = c.args.wheel.now.parts in
    let d = c.args.channel in
    let count : c.from-count.result ≡ edge_count w d = c.from-count.ensures ∙ c.cam_count.ensures.of_wheel w c.requires.table in
    c.cam_pol.ensures w c.requires.table ∙ ap (λ n. pol_of w d (pos (c.args.edge % n))) count
    ∙ ap (λ r. pol_to (level_of w d (slice_index (edge_slots w d) r))) (mod-eq_of_lt (rest_below c.args.edge (edge_count w d) c.requires.present))
