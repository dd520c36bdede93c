use Rattle.std.proofs.Common.{◌≡◌, ◌≤◌, ◌-◌, ◌++◌, length}
use Rattle.std.specs.Prelude.{IfSome, option_map, option_to_list}
use Rattle.c_tables.specs.Arrays.{bodies}
use Rattle.c_tables.specs.Spans.{left}
use Rattle.c_tables.proofs.array.body_place.Given as goal

abbrev pub invariant-tokens : goal.invariant-tokens
invariant-tokens l = record {
  within : l.from ≤ length l.source;
  body : IfSome l.found (λ at. at ≤ length l.source);
  left : bodies l.name (left l.source 0) ≡ option_to_list (option_map (left l.source) l.found) ++ bodies l.name (left l.source l.from);
}

abbrev pub decreases-tokens : goal.decreases-tokens
decreases-tokens l = length l.source - l.from
