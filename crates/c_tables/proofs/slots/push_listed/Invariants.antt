use Rattle.std.proofs.Common.{◌≡◌, ◌++◌, drop, string_bytes}
use Rattle.c_tables.specs.Slots.{listed_after}
use Rattle.c_tables.proofs.slots.push_listed.Given as goal

abbrev pub invariant-loop-number : goal.invariant-loop-number
invariant-loop-number l = string_bytes l.line ++ listed_after (drop l.number-index l.numbers) ≡ string_bytes l.fn.line ++ listed_after l.numbers
