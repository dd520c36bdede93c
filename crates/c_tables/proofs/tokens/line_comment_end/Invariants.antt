use Rattle.std.proofs.Common.{◌≡◌, drop}
use Rattle.c_tables.specs.Tokens.{tokens_from, in_line_comment}
use Rattle.c_tables.proofs.tokens.line_comment_end.Given as goal

abbrev pub invariant-bytes : goal.invariant-bytes
invariant-bytes l = tokens_from in_line_comment l.fn.from (drop l.fn.from l.source) ≡ tokens_from in_line_comment l.at (drop l.at l.source)
