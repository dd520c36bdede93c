use Rattle.std.proofs.Common.{◌≡◌, ◌≤◌, ◌-◌, length}
use Rattle.c_tables.specs.Spans.{left}
use Rattle.c_tables.proofs.tokens.token_start.Given as goal

abbrev pub invariant-gaps : goal.invariant-gaps
invariant-gaps l = record {
  later : l.fn.from ≤ l.at;
  within : l.at ≤ length l.source;
  same : left l.source l.fn.from ≡ left l.source l.at;
}

abbrev pub decreases-gaps : goal.decreases-gaps
decreases-gaps l = length l.source - l.at
