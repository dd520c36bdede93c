use Rattle.std.proofs.Common.{◌≡◌, ℕ, ◌<◌, None}
use Rattle.image_layout.specs.StateRules.{set_fault}
use Rattle.image_format.proofs.members.check_members.Given as goal

abbrev pub invariant-loop-i : goal.invariant-loop-i
invariant-loop-i l = (k : ℕ) → k < l.i → set_fault l.bytes k ≡ None
