use Rattle.std.proofs.Common.{◌≡◌, ◌<ℤ◌, pos, false}
use Rattle.std.specs.Prelude.{IfSome}
use Rattle.capture_core.specs.LevelsOf.{is_open, time_of_last}
use Rattle.capture_rows.proofs.levels.told_of_levels.Given as goal

abbrev pub invariant-stamps : goal.invariant-stamps
invariant-stamps l = (is_open l.levels ≡ false) × IfSome (time_of_last l.levels) (λ t. t <ℤ pos l.time)
