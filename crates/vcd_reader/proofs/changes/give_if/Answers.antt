use Rattle.vcd_reader.proofs.changes.give_if.Goals as goal

pub returns-then-is-clause-stands : goal.returns-then-is-clause-stands
returns-then-is-clause-stands c = λ s closed h. rw c.if-is.true (c.give.ensures.stands s closed h)
