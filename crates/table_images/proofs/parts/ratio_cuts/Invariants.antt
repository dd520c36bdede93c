use Rattle.std.proofs.Common.{◌≡◌, take}
use Rattle.std.specs.Prelude.{map}
use Rattle.gap_thresholds.specs.declared.cut.Cut.{Cut}
use Rattle.gap_thresholds.specs.Classes.{ratios_of}
use Rattle.table_images.proofs.parts.ratio_cuts.Given as goal

abbrev pub invariant-loop-i : goal.invariant-loop-i
invariant-loop-i l = l.pairs.items ≡ map (λ (c : Cut). (c.top, c.bottom)) (take l.i (ratios_of l.cuts))
