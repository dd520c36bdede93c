use Rattle.std.proofs.Common.{arith}
use Rattle.image_layout.specs.Layout.{time_total, ratio_total}
use Rattle.sync_machine.proofs.Halving.{steps_bound}
use Rattle.sync_machine.proofs.machine.Machine.letters.Goals as goal

pub returns-then-phase-ne2-clause-cost : goal.returns-then-phase-ne2-clause-cost
returns-then-phase-ne2-clause-cost g c times ratios h k =
    let timed = c.time_class-timed in
    let t = steps_bound c.args.steps.now timed.new.steps (time_total c.args.self.now.view.bytes.now) times timed.ensures.grown timed.ensures.cost h in
    omega (arith, t)

pub returns-clause-cost : goal.returns-clause-cost
returns-clause-cost g c times ratios h k =
    let timed = c.time_class-timed in
    let ratio = c.ratio_class-ratio in
    let t = steps_bound c.args.steps.now timed.new.steps (time_total c.args.self.now.view.bytes.now) times timed.ensures.grown timed.ensures.cost h in
    let r = steps_bound timed.new.steps ratio.new.steps (ratio_total c.args.self.now.view.bytes.now) ratios ratio.ensures.grown ratio.ensures.cost k in
    omega (arith, t, r)
