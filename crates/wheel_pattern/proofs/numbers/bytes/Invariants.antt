use Rattle.std.proofs.Common.{◌≡◌, drop}
use Rattle.wheel_pattern.specs.Values.{all_below}
use Rattle.wheel_pattern.proofs.Gathered.{after_front}
use Rattle.toml.specs.View.{items_view}
use Rattle.wheel_pattern.proofs.numbers.bytes.Given as goal

abbrev pub invariant-loop-item : goal.invariant-loop-item
invariant-loop-item l =
    all_below 256 (items_view l.item-items) ≡ after_front l.found.items (all_below 256 (items_view (drop l.item-index l.item-items)))
