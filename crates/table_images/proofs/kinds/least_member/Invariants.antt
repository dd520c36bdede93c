use Rattle.std.proofs.Common.{ℕ, ◌<◌}
use Rattle.position_nfa.specs.Sound.{IsMember}
use Rattle.position_nfa.specs.Views.{alphabet}
use Rattle.table_images.proofs.kinds.least_member.Given as goal

abbrev pub invariant-loop-i : goal.invariant-loop-i
invariant-loop-i l = (k : ℕ) → k < l.i → IsMember (alphabet l.nfa) l.set k → ⊥
