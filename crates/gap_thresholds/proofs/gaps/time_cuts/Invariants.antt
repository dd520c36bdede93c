use Rattle.std.proofs.Common.{◌*◌, ◌≤◌, length}
use Rattle.std.specs.Prelude.{◌↔◌}
use Rattle.std.specs.List.{Contains}
use Rattle.gap_thresholds.specs.declared.cut.Cut.{Cut}
use Rattle.gap_thresholds.proofs.Listed.{Before}
use Rattle.gap_thresholds.proofs.EdgeCuts.{IsTimeCutAt}
use Rattle.gap_thresholds.proofs.gaps.time_cuts.Given as goal

abbrev pub invariant-loop-j : goal.invariant-loop-j
invariant-loop-j l = record {
  cuts : (c : Cut) → Contains l.times.cuts.items c ↔ Before (IsTimeCutAt l.wheel.parts) l.j c;
  few : length l.times.cuts.items ≤ 2 * l.j;
}
