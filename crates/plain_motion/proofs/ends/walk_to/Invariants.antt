use Rattle.std.proofs.Common.{◌≡◌, take}
use Rattle.std.specs.Prelude.{Contains}
use Rattle.plain_motion.specs.declared.window.Walk.{Walk}
use Rattle.plain_motion.proofs.ends.walk_to.Given as goal

abbrev pub invariant-loop-walk : goal.invariant-loop-walk
invariant-loop-walk l = (v : Walk) → Contains (take l.walk-index l.walks) v → v.end ≡ l.end → ⊥
