use Rattle.std.proofs.Common.{◌≡◌, ◌≤◌, ◌<◌, ◌+◌, drop}
use Rattle.image_layout.specs.Layout.{state_total}
use Rattle.image_format.specs.Walk.{state_after, taken}
use Rattle.sync_machine.proofs.machine.follow.Given as goal

abbrev pub invariant-loop-column : goal.invariant-loop-column
invariant-loop-column g l = record {
  within : l.state < state_total l.view.bytes.now;
  state : state_after l.view.bytes.now l.state (drop l.column-index l.columns) ≡ state_after l.view.bytes.now l.from l.columns;
  reads : l.reads + taken l.view.bytes.now l.state (drop l.column-index l.columns) ≡ taken l.view.bytes.now l.from l.columns;
  steps : l.steps ≡ l.initial.steps + l.reads;
  few : l.reads ≤ l.column-index;
}
