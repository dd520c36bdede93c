use Rattle.std.proofs.Common.{◌∙◌, ap, sym}
use Rattle.std.specs.Prelude.{slice_index}
use Rattle.wheel_pattern.specs.ToothPattern.{turn_levels}
use Rattle.wheel_pattern.proofs.TurnLevels.{first_turn, second_turn}
use Rattle.wheel_pattern.proofs.tooth_pattern.crank_level.Goals as goal
use Rattle.wheel_pattern.proofs.tooth_pattern.crank_level.Goals.{then-slot-turn, else-slot-turn}

pub returns-clause-value : goal.returns-clause-value
returns-clause-value c = elim c.if-slot-turn.branch [
  | then-slot-turn w ↦ c.turn_level.ensures.value ∙ ap (slice_index (turn_levels c.args.pattern.teeth c.args.pattern.missing)) w.in_turn-is
      ∙ sym (first_turn c.args.pattern.degrees c.args.pattern.teeth c.args.pattern.missing c.args.slot c.requires.within.missing w.if-slot-turn.true)
  | else-slot-turn w ↦ c.turn_level.ensures.value ∙ ap (slice_index (turn_levels c.args.pattern.teeth c.args.pattern.missing)) w.in_turn-is
      ∙ sym (second_turn c.args.pattern.degrees c.args.pattern.teeth c.args.pattern.missing c.args.slot c.requires.within.missing w.if-slot-turn.false c.requires.slot)
]
