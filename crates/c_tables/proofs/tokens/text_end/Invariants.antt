use Rattle.std.proofs.Common.{◌≡◌, ◌+◌, false, drop, length}
use Rattle.c_tables.specs.Tokens.{tokens_from, run, in_text}
use Rattle.c_tables.proofs.tokens.text_end.Given as goal

abbrev pub invariant-bytes : goal.invariant-bytes
invariant-bytes l = record {
  left : tokens_from (in_text l.fn.mark false) l.fn.from (drop l.fn.from l.source) ≡ tokens_from (in_text l.fn.mark l.is_escaped) l.at (drop l.at l.source);
  text : l.fn.from + length (run (in_text l.fn.mark false) (drop l.fn.from l.source)) ≡ l.at + length (run (in_text l.fn.mark l.is_escaped) (drop l.at l.source));
}
