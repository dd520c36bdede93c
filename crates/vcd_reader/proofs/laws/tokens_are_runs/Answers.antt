use Rattle.vcd_reader.proofs.TokenOrder.{in_order}
use Rattle.vcd_reader.proofs.TokenRuns.{are_runs, last_is_open}
use Rattle.vcd_reader.proofs.laws.tokens_are_runs.Goals as goal

pub returns-clause-runs : goal.returns-clause-runs
returns-clause-runs c = are_runs

pub returns-clause-in_order : goal.returns-clause-in_order
returns-clause-in_order c = in_order

pub returns-clause-last : goal.returns-clause-last
returns-clause-last c = last_is_open
