use Rattle.legal_steps.proofs.KeptGaps.{ratio_along, same_apart}
use Rattle.legal_steps.proofs.motions.Motions.keeps_ratio.Goals as goal

pub returns : goal.returns
returns c =
    let me = c.args.self.now in
    ratio_along me.wheel.parts c.keeps_ratio.result _ _ _ _ _ _ _ _ c.gap_before-slots_before.ensures.slots (same_apart c.args.before c.args.last c.apart-time_before.result c.requires.before c.requires.last c.apart-time_before.ensures.time) (c.crank_gap-slots.ensures.of_wheel me.wheel.parts me.table) (same_apart c.args.last c.args.time c.apart-time.result c.requires.last c.requires.time c.apart-time.ensures.time) c.keeps_ratio.ensures

pub keeps_ratio-requires-clause-first_slots : goal.keeps_ratio-requires-clause-first_slots
keeps_ratio-requires-clause-first_slots c = c.gap_before-slots_before.ensures.most

pub keeps_ratio-requires-clause-second_slots : goal.keeps_ratio-requires-clause-second_slots
keeps_ratio-requires-clause-second_slots c = c.crank_gap-slots.ensures.most c.args.self.now.wheel.parts c.args.self.now.table
