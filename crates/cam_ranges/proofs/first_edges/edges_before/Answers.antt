use Rattle.std.proofs.Common.{◌≡◌, ◌+◌, ◌-◌, ◌/◌, ◌<◌, ◌≤◌, subst, arith}
use Rattle.wheel_types.specs.Edges.{edge_count}
use Rattle.cam_ranges.proofs.Halving.{apart_above, apart_below}
use Rattle.cam_ranges.proofs.first_edges.edges_before.Goals as goal

pub loop-first-preserved-then-cam_slot-slot : goal.loop-first-preserved-then-cam_slot-slot
loop-first-preserved-then-cam_slot-slot c =
    let l = c.loop-first in
    let middle = l.first + (l.end - l.first) / 2 in
    record {
      in_order = omega arith;
      within = l.invariant.within;
      apart = λ w t.
          let count : c.cam_count-end.result ≡ edge_count w c.args.channel = c.cam_count-end.ensures.of_wheel w t in
          let within : middle < edge_count w c.args.channel = omega arith in
          apart_above w c.args.channel c.args.slot l.first l.end middle (l.invariant.apart w t) within (subst (λ n. n < c.args.slot) (c.cam_slot.ensures.of_wheel w t) c.if-cam_slot-slot.true);
    }

pub loop-first-preserved : goal.loop-first-preserved
loop-first-preserved c =
    let l = c.loop-first in
    let middle = l.first + (l.end - l.first) / 2 in
    record {
      in_order = omega arith;
      within = omega arith;
      apart = λ w t. apart_below w c.args.channel c.args.slot l.first l.end middle (l.invariant.apart w t) (subst (λ n. c.args.slot ≤ n) (c.cam_slot.ensures.of_wheel w t) c.if-cam_slot-slot.false);
    }
