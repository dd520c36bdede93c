use Rattle.std.proofs.Common.{ap, sym, ◌∙◌, arith}
use Rattle.std.proofs.lemmas.List.{take_rest}
use Rattle.c_tables.specs.Tokens.{ends_line}
use Rattle.c_tables.proofs.Passing.{line_comment_on}
use Rattle.c_tables.proofs.tokens.line_comment_end.Goals as goal

pub bytes-preserved : goal.bytes-preserved
bytes-preserved c =
    c.bytes.invariant ∙ line_comment_on c.args.source.now c.bytes.at (omega arith)
    (ap ends_line (sym (take_rest c.args.source.now c.bytes.at)) ∙ sym c.if-ends_line.ensures)
