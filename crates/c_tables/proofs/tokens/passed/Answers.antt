use Rattle.std.proofs.Common.{ap, sym, ◌∙◌, arith}
use Rattle.std.specs.Prelude.{codes}
use Rattle.std.proofs.lemmas.List.{take_rest}
use Rattle.c_tables.specs.Tokens.{begins}
use Rattle.c_tables.proofs.Passing.{block_comment_begun, line_comment_begun}
use Rattle.c_tables.proofs.tokens.passed.Goals as goal

pub returns-then-starts_with : goal.returns-then-starts_with
returns-then-starts_with c = (
  omega (arith, c.block_comment_end.ensures.later),
  c.block_comment_end.ensures.within,
  block_comment_begun c.args.source.now c.args.at (ap (begins (codes "/*")) (sym (take_rest c.args.source.now c.args.at)) ∙ sym c.if-starts_with.ensures.value)
      ∙ c.block_comment_end.ensures.left,
)

pub returns-then-starts_with-2 : goal.returns-then-starts_with-2
returns-then-starts_with-2 c = (
  omega (arith, c.line_comment_end.ensures.later),
  c.line_comment_end.ensures.within,
  line_comment_begun c.args.source.now c.args.at (ap (begins (codes "//")) (sym (take_rest c.args.source.now c.args.at)) ∙ sym c.if-starts_with-2.ensures.value)
      ∙ c.line_comment_end.ensures.left,
)
