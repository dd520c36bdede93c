use Rattle.std.proofs.Common.{◌≡◌}
use Rattle.edge_angles.proofs.Tables.{edges_below}
use Rattle.edge_angles.proofs.edges.find.edges_on.Given as goal

abbrev pub invariant-loop-slot : goal.invariant-loop-slot
invariant-loop-slot l = l.edges.items ≡ edges_below l.wheel.parts l.channel l.slot
