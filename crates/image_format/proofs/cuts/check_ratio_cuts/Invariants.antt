use Rattle.std.proofs.Common.{◌≡◌, ℕ, ◌<◌, None}
use Rattle.image_layout.specs.ListRules.{ratio_cut_fault}
use Rattle.image_format.proofs.cuts.check_ratio_cuts.Given as goal

abbrev pub invariant-loop-i : goal.invariant-loop-i
invariant-loop-i l = (k : ℕ) → k < l.i → ratio_cut_fault l.bytes k ≡ None
