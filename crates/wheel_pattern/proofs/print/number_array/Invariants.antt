use Rattle.std.proofs.Common.{◌≡◌, take}
use Rattle.toml.specs.View.{items_view}
use Rattle.wheel_pattern.specs.Printed.{numbers}
use Rattle.wheel_pattern.proofs.print.number_array.Given as goal

abbrev pub invariant-loop-item : goal.invariant-loop-item
invariant-loop-item l = items_view l.values.items ≡ numbers (take l.item-index l.items)
