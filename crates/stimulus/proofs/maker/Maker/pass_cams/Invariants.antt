use Rattle.std.proofs.Common.{◌≡◌, ◌-◌}
use Rattle.stimulus.specs.Making.{IsMaking, cams_passed}
use Rattle.stimulus.proofs.maker.Maker.pass_cams.Given as goal

abbrev pub invariant-loop-angle : goal.invariant-loop-angle
invariant-loop-angle l = record {
  making : IsMaking l.wheel.parts l.plan l.self;
  same : l.self.from ≡ l.fn.self.from;
}

abbrev pub decreases-loop-angle : goal.decreases-loop-angle
decreases-loop-angle l = 4000001 - cams_passed l.self
