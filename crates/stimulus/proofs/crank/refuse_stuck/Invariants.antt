use Rattle.std.proofs.Common.{◌≡◌}
use Rattle.stimulus.specs.Cranks.{IsCrankEdge, gap_generator}
use Rattle.stimulus.proofs.crank.refuse_stuck.Given as goal

abbrev pub invariant-loop : goal.invariant-loop
invariant-loop l = record {
  edge : IsCrankEdge l.wheel.parts l.plan.seed l.edge;
  number : l.edge.number ≡ l.counter;
  generator : l.generator ≡ gap_generator l.plan.seed l.edge.number;
}
