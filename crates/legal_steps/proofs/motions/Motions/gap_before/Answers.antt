use Rattle.std.proofs.Common.{◌∙◌, arith}
use Rattle.legal_steps.proofs.KeptGaps.{gap_before}
use Rattle.legal_steps.proofs.motions.Motions.gap_before.Goals as goal

pub returns-clause-slots : goal.returns-clause-slots
returns-clause-slots c =
    let me = c.args.self.now in
    c.crank_gap.ensures.of_wheel me.wheel.parts me.table ∙ gap_before me.wheel.parts (omega (arith, me.wheel.valid.crank_edge)) c.before-before.result c.args.j c.before-before.ensures.back

pub returns-clause-most : goal.returns-clause-most
returns-clause-most c = c.crank_gap.ensures.most c.args.self.now.wheel.parts c.args.self.now.table
