use Rattle.std.proofs.Common.{◌∙◌}
use Rattle.legal_steps.proofs.KeptGaps.{gap_at}
use Rattle.position_nfa.proofs.masks.next_slots.Goals as goal

pub returns-clause-slots : goal.returns-clause-slots
returns-clause-slots c =
    let me = c.args.motions.now in
    c.crank_gap.ensures.of_wheel me.wheel.parts me.table ∙ gap_at me.wheel.parts c.args.place.j
