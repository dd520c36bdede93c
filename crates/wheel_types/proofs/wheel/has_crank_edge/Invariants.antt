use Rattle.std.proofs.Common.{◌≡◌, []}
use Rattle.std.specs.Prelude.{slice_index, filter, is_some}
use Rattle.wheel_types.specs.declared.channel.Channel.TheVariants.{Crank}
use Rattle.wheel_types.specs.Edges.{below, slot_before, edge_at}
use Rattle.wheel_types.proofs.wheel.has_crank_edge.Given as goal

abbrev pub invariant-loop-value : goal.invariant-loop-value
invariant-loop-value l = record {
  same : l.slots ≡ l.parts.slots;
  last : l.before ≡ slice_index l.parts.slots (slot_before l.parts l.value-index);
  none : filter (λ k. is_some (edge_at l.parts Crank k)) (below l.value-index) ≡ [];
}
