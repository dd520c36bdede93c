use Rattle.std.proofs.Common.{◌≡◌, ℕ, ◌<◌, None}
use Rattle.image_layout.specs.StateRules.{kind_fault}
use Rattle.image_format.proofs.kinds.check_kinds.Given as goal

abbrev pub invariant-loop-i : goal.invariant-loop-i
invariant-loop-i l = (k : ℕ) → k < l.i → kind_fault l.bytes k ≡ None
