use Rattle.std.proofs.Common.{◌≡◌, ◌+◌, drop, length}
use Rattle.c_tables.specs.Tokens.{tokens_from, run, in_word}
use Rattle.c_tables.proofs.tokens.word_end.Given as goal

abbrev pub invariant-bytes : goal.invariant-bytes
invariant-bytes l = record {
  left : tokens_from in_word l.fn.from (drop l.fn.from l.source) ≡ tokens_from in_word l.at (drop l.at l.source);
  text : l.fn.from + length (run in_word (drop l.fn.from l.source)) ≡ l.at + length (run in_word (drop l.at l.source));
}
