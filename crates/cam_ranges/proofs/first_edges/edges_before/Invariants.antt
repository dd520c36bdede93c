use Rattle.std.proofs.Common.{◌-◌, ◌≤◌}
use Rattle.wheel_types.specs.declared.parts.WheelParts.{WheelParts}
use Rattle.edge_angles.specs.EdgeTables.{AreEdgesOf, edges_in}
use Rattle.std.specs.Prelude.{length}
use Rattle.cam_ranges.proofs.Halving.{AreApart}
use Rattle.cam_ranges.proofs.first_edges.edges_before.Given as goal

abbrev pub invariant-loop-first : goal.invariant-loop-first
invariant-loop-first l = record {
  in_order : l.first ≤ l.end;
  within : l.end ≤ length (edges_in l.edges l.channel);
  apart : (parts : WheelParts) → AreEdgesOf parts l.edges → AreApart parts l.channel l.slot l.first l.end;
}

abbrev pub decreases-loop-first : goal.decreases-loop-first
decreases-loop-first l = l.end - l.first
