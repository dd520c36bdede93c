use Rattle.std.proofs.Common.{◌≡◌, Some, true}
use Rattle.capture_core.specs.LevelsOf.{is_open, time_of_last}
use Rattle.capture_rows.proofs.levels.stamp.Given as goal

abbrev pub invariant-words : goal.invariant-words
invariant-words l = (is_open l.levels ≡ true) × (time_of_last l.levels ≡ Some l.fn.time)
