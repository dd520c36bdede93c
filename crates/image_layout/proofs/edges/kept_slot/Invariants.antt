use Rattle.std.proofs.Common.{◌≡◌, ◌<◌, ◌≤◌, length}
use Rattle.std.specs.Prelude.{filter, is_some}
use Rattle.wheel_types.specs.Edges.{edge_at, below, level_of, slot_before, keep_of}
use Rattle.wheel_types.specs.declared.parts.WheelParts.{WheelParts}
use Rattle.image_layout.proofs.edges.kept_slot.Given as goal

abbrev pub invariant-loop-k : goal.invariant-loop-k
invariant-loop-k l = record {
  few : l.count ≤ l.k;
  upto : l.count ≤ l.j;
  level : l.before < 2;
  before : (w : WheelParts) → w.slots ≡ l.slots → l.before ≡ level_of w l.channel (slot_before w l.k);
  counted : (w : WheelParts) → w.slots ≡ l.slots → keep_of w l.channel ≡ l.keep → l.count ≡ length (filter (λ k. is_some (edge_at w l.channel k)) (below l.k));
}
