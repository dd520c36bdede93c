use Rattle.std.proofs.Common.{ℕ, ◌<◌, ◌≤◌, ◌^◌, get_or, unsigned_abs}
use Rattle.wheel_types.specs.declared.instant.Instant.{Instant}
use Rattle.stimulus_files.proofs.small.are_within.Given as goal

abbrev pub invariant-loop-instant : goal.invariant-loop-instant
invariant-loop-instant l = (k : ℕ) (d : Instant) → k < l.instant-index → unsigned_abs (get_or l.instants k d).time ≤ 10 ^ 24
