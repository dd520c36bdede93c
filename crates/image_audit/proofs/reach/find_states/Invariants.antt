use Rattle.std.proofs.Common.{◌-◌}
use Rattle.image_layout.specs.Layout.{state_total}
use Rattle.image_audit.specs.Walks.{AreFound}
use Rattle.image_audit.proofs.reach.find_states.Given as goal

abbrev pub invariant-loop-i : goal.invariant-loop-i
invariant-loop-i l = AreFound l.view.bytes.now l.i l.found.keys

abbrev pub decreases-loop-i : goal.decreases-loop-i
decreases-loop-i l = state_total l.view.bytes.now - l.i
