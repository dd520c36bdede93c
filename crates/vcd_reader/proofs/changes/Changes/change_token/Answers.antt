use Rattle.std.proofs.Common.{sym, ◌∙◌}
use Rattle.vcd_reader.proofs.Firsts.{change_token-other}
use Rattle.vcd_reader.proofs.changes.Changes.change_token.Goals as goal

pub returns-clause-ok : goal.returns-clause-ok
returns-clause-ok c = λ watch handed b k.
    rw (change_token-other b c.args.text.now c.args.at c.in-len1-up.len_at_least c.if-first-eq35.false (sym c.is_value.ensures ∙ c.if-is_value.false))
    (c.other_token.ensures watch handed c.args.waiting.now c.args.self.now b k)
