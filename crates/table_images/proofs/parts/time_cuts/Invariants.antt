use Rattle.std.proofs.Common.{◌≡◌, ℕ, ◌<◌, ◌^◌, take}
use Rattle.std.specs.Prelude.{map, slice_index}
use Rattle.gap_thresholds.specs.declared.cut.Cut.{Cut}
use Rattle.gap_thresholds.specs.Classes.{times_of}
use Rattle.table_images.proofs.parts.time_cuts.Given as goal

abbrev pub invariant-loop-i : goal.invariant-loop-i
invariant-loop-i l = (l.tops.items ≡ map (λ (c : Cut). c.top) (take l.i (times_of l.cuts))) × ((k : ℕ) → slice_index l.tops.items k < 2 ^ 64)
