use Rattle.std.proofs.Common.{◌≡◌, map}
use Rattle.wheel_types.specs.Edges.{below}
use Rattle.wheel_pattern.specs.Patterns.{slot_of}
use Rattle.wheel_pattern.proofs.tooth_pattern.pattern_slots.Given as goal

abbrev pub invariant-loop-slot : goal.invariant-loop-slot
invariant-loop-slot l = l.slots.items ≡ map (slot_of l.pattern) (below l.slot)
