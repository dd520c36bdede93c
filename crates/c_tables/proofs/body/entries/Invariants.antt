use Rattle.std.proofs.Common.{◌≡◌, ◌≤◌, ◌-◌, length}
use Rattle.c_tables.specs.declared.body.Wanted.TheVariants.{FirstEntry}
use Rattle.c_tables.specs.Kept.{kept_entries}
use Rattle.c_tables.specs.Spans.{left}
use Rattle.c_tables.proofs.EntryValues.{all_in_front}
use Rattle.c_tables.proofs.body.entries.Given as goal

abbrev pub invariant-tokens : goal.invariant-tokens
invariant-tokens l = record {
  within : l.at ≤ length l.source;
  left : kept_entries (length l.source) FirstEntry (left l.source l.fn.from) ≡ all_in_front l.values.items (kept_entries (length l.source) l.wanted (left l.source l.at));
}

abbrev pub decreases-tokens : goal.decreases-tokens
decreases-tokens l = length l.source - l.at
