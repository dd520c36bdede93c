use Rattle.std.proofs.Common.{arith}
use Rattle.stimulus.proofs.EdgeCounts.{too_many}
use Rattle.stimulus.proofs.maker.Maker.refuse_many.Goals as goal

pub returns-then-plan-self-gt-MOST_EDGES-clause-many : goal.returns-then-plan-self-gt-MOST_EDGES-clause-many
returns-then-plan-self-gt-MOST_EDGES-clause-many c =
    let m = c.args.self.now in
    let h = c.if-plan-self-gt-MOST_EDGES.true in
    too_many c.args.wheel.now.parts c.args.plan.now.seed m.from.number c.args.plan.now.gaps m.cam1.passed m.cam2.passed c.requires.made.angle m.instants.items
    c.args.wheel.now.valid c.requires.made.within c.requires.made.given (omega (arith, h))
