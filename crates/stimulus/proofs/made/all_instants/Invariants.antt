use Rattle.std.proofs.Common.{◌≡◌, ◌+◌}
use Rattle.stimulus.specs.Making.{IsMaking}
use Rattle.stimulus.proofs.made.all_instants.Given as goal

abbrev pub invariant-loop : goal.invariant-loop
invariant-loop l = record {
  making : IsMaking l.wheel.parts l.plan l.maker;
  number : l.maker.from.number + 1 ≡ l.counter;
}
