use Rattle.std.proofs.Common.{◌<◌, length, ◌∙◌, arith}
use Rattle.c_tables.proofs.Runs.{token_begun}
use Rattle.c_tables.proofs.tokens.next.Goals as goal

pub returns : goal.returns
returns c =
    let inside : c.token_start-at.result < length c.args.source.now = omega (arith, c.token_start-at.ensures.within) in
    record {
      later = c.token_start-at.ensures.later;
      filled = omega (arith, c.token_end.ensures.closes.later);
      within = c.token_end.ensures.closes.within;
      left = c.token_start-at.ensures.left
          ∙ token_begun c.args.source.now c.token_start-at.result c.token_end.result inside (c.token_start-at.ensures.begins inside) c.token_end.ensures;
    }
