use Rattle.std.proofs.Common.{arith}
use Rattle.sync_machine.proofs.Following.{ends_state, goes_on_state, ends_reads, goes_on_reads, all_state, all_reads}
use Rattle.sync_machine.proofs.machine.follow.Goals as goal

pub returns-then-state-eq0-clause-state : goal.returns-then-state-eq0-clause-state
returns-then-state-eq0-clause-state g c =
    ends_state c.args.view.now.bytes.now c.args.columns.now c.args.from c.loop-column.state c.loop-column.column-index c.read-state.result (omega arith) c.read-state.ensures.entry c.if-state-eq0.true c.loop-column.invariant.state

pub returns-then-state-eq0-clause-reads : goal.returns-then-state-eq0-clause-reads
returns-then-state-eq0-clause-reads g c =
    ends_reads c.args.view.now.bytes.now c.args.columns.now c.args.from c.loop-column.state c.loop-column.column-index c.read-state.result (omega arith) c.read-state.ensures.entry c.loop-column.reads c.if-state-eq0.true c.loop-column.invariant.reads

pub loop-column-preserved : goal.loop-column-preserved
loop-column-preserved g c = record {
  within = c.read-state.ensures.within;
  state = goes_on_state c.args.view.now.bytes.now c.args.columns.now c.args.from c.loop-column.state c.loop-column.column-index c.read-state.result (omega arith) c.read-state.ensures.entry c.if-state-eq0.false c.loop-column.invariant.state;
  reads = goes_on_reads c.args.view.now.bytes.now c.args.columns.now c.args.from c.loop-column.state c.loop-column.column-index c.read-state.result (omega arith) c.read-state.ensures.entry c.loop-column.reads c.if-state-eq0.false c.loop-column.invariant.reads;
  steps = omega (arith, c.read-state.ensures.steps, c.loop-column.invariant.steps);
  few = omega (arith, c.loop-column.invariant.few);
}

pub returns-clause-state : goal.returns-clause-state
returns-clause-state g c = all_state c.args.view.now.bytes.now c.args.columns.now c.args.from c.loop-column.state c.loop-column.column-index (omega arith) c.loop-column.invariant.state

pub returns-clause-reads : goal.returns-clause-reads
returns-clause-reads g c = all_reads c.args.view.now.bytes.now c.args.columns.now c.args.from c.loop-column.state c.loop-column.column-index (omega arith) c.loop-column.reads c.loop-column.invariant.reads
