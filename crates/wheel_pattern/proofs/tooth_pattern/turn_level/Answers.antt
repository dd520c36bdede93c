use Rattle.std.proofs.Common.{sym}
use Rattle.wheel_pattern.proofs.TurnLevels.{high_in_turn, low_at_odd, low_past}
use Rattle.wheel_pattern.proofs.tooth_pattern.turn_level.Goals as goal
use Rattle.wheel_pattern.proofs.tooth_pattern.turn_level.Goals.{else-slot-eq0-via-then-slot-eq0+else-slot-teeth, else-slot-eq0-via-else-slot-eq0}

pub returns-then-slot-teeth-clause-value : goal.returns-then-slot-teeth-clause-value
returns-then-slot-teeth-clause-value c = sym (high_in_turn c.args.teeth c.args.missing c.args.slot c.requires.1 c.if-slot-eq0.true c.if-slot-teeth.true)

pub returns-else-slot-eq0-clause-value : goal.returns-else-slot-eq0-clause-value
returns-else-slot-eq0-clause-value c = elim c.else-slot-eq0.branch [
  | else-slot-eq0-via-then-slot-eq0+else-slot-teeth w ↦ sym (low_past c.args.teeth c.args.missing c.args.slot w.if-slot-teeth.false)
  | else-slot-eq0-via-else-slot-eq0 w ↦ sym (low_at_odd c.args.teeth c.args.missing c.args.slot w.if-slot-eq0.false)
]
