use Rattle.legal_steps.proofs.KeptGaps.{speed_along, same_apart}
use Rattle.legal_steps.proofs.motions.Motions.keeps_speed.Goals as goal

pub returns : goal.returns
returns c =
    let me = c.args.self.now in
    speed_along me.wheel.parts c.keeps_speed.result _ _ _ _ (c.crank_gap-slots.ensures.of_wheel me.wheel.parts me.table) (same_apart c.args.last c.args.time c.apart-time.result c.requires.last c.requires.time c.apart-time.ensures.time) c.keeps_speed.ensures

pub keeps_speed-requires-clause-slots : goal.keeps_speed-requires-clause-slots
keeps_speed-requires-clause-slots c = c.crank_gap-slots.ensures.most c.args.self.now.wheel.parts c.args.self.now.table
