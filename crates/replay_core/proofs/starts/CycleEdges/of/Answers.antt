use Rattle.std.proofs.Common.{arith}
use Rattle.image_format.proofs.Wheels.{is_wheel}
use Rattle.replay_core.proofs.starts.CycleEdges.of.Goals as goal

pub returns-clause-some : goal.returns-clause-some
returns-clause-some c =
    let edge = (is_wheel c.args.view.now.bytes.now c.args.view.now.keeps).crank_edge in
    let count = c.crank_count.ensures in
    omega (arith, edge, count)
