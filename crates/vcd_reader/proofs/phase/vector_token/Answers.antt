use Rattle.std.proofs.Common.{sym, ◌∙◌}
use Rattle.vcd_reader.proofs.Firsts.{vector_token-last}
use Rattle.vcd_reader.proofs.phase.vector_token.Goals as goal

pub returns-in-len1-up : goal.returns-in-len1-up
returns-in-len1-up c = λ watch handed waiting kept b k.
    rw (vector_token-last b c.args.values.now c.args.at c.in-len1-up.len_at_least (sym c.all_values.ensures ∙ c.if-all_values.true)) (c.level_of.ensures, k)
