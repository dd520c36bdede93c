use Rattle.std.proofs.Common.{◌≡◌, ℕ, ◌<◌, None}
use Rattle.image_layout.specs.ListRules.{time_cut_fault}
use Rattle.image_format.proofs.cuts.check_time_cuts.Given as goal

abbrev pub invariant-loop-i : goal.invariant-loop-i
invariant-loop-i l = (k : ℕ) → k < l.i → time_cut_fault l.bytes k ≡ None
