use Rattle.std.proofs.Common.{◌≡◌, ◌≤◌, length, take}
use Rattle.std.specs.Prelude.{filter, nat_lt}
use Rattle.wheel_types.specs.declared.parts.WheelParts.{WheelParts}
use Rattle.wheel_types.specs.Edges.{edge_slots}
use Rattle.edge_angles.specs.EdgeTables.{AreEdgesOf}
use Rattle.stimulus.proofs.cam.edges_before.Given as goal

abbrev pub invariant-loop-n : goal.invariant-loop-n
invariant-loop-n l = record {
  before : (w : WheelParts) → AreEdgesOf w l.edges → l.before ≡ length (filter (λ k. nat_lt k l.slot) (take l.n (edge_slots w l.channel)));
  few : l.before ≤ l.n;
}
