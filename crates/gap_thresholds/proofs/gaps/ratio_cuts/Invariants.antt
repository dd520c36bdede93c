use Rattle.std.proofs.Common.{◌*◌, ◌≤◌, length}
use Rattle.std.specs.Prelude.{◌↔◌, All}
use Rattle.std.specs.List.{Contains}
use Rattle.gap_thresholds.specs.declared.cut.Cut.{Cut}
use Rattle.gap_thresholds.specs.Fractions.{IsSmall}
use Rattle.gap_thresholds.proofs.Listed.{Before}
use Rattle.gap_thresholds.proofs.EdgeCuts.{IsRatioCutAt}
use Rattle.gap_thresholds.proofs.gaps.ratio_cuts.Given as goal

abbrev pub invariant-loop-j : goal.invariant-loop-j
invariant-loop-j l = record {
  cuts : (c : Cut) → Contains l.ratios.cuts.items c ↔ Before (IsRatioCutAt l.wheel.parts) l.j c;
  small : All IsSmall l.ratios.cuts.items;
  few : length l.ratios.cuts.items ≤ 2 * l.j;
}
