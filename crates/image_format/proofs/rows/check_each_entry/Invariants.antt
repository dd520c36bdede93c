use Rattle.std.proofs.Common.{◌≡◌, ℕ, ◌+◌, ◌-◌, ◌*◌, ◌<◌, None}
use Rattle.image_layout.specs.Layout.{state_total, row_width}
use Rattle.image_layout.specs.StateRules.{entry_fault}
use Rattle.image_format.proofs.rows.check_each_entry.Given as goal

abbrev pub invariant-loop-q : goal.invariant-loop-q
invariant-loop-q l = record {
  column : l.column < row_width l.bytes;
  before : (k : ℕ) → k < l.q * row_width l.bytes + l.column → entry_fault l.bytes k ≡ None;
}

abbrev pub decreases-loop-q : goal.decreases-loop-q
decreases-loop-q l = state_total l.bytes * row_width l.bytes - (l.q * row_width l.bytes + l.column)
