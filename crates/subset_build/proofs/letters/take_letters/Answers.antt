use Rattle.std.proofs.Common.{arith}
use Rattle.std.proofs.lemmas.Result.{err_from_is_err_and}
use Rattle.position_nfa.specs.Views.{alphabet}
use Rattle.position_nfa.specs.Step.{dead_state}
use Rattle.subset_build.proofs.Limits.{fills_at}
use Rattle.subset_build.proofs.RowLaws.{kept_at}
use Rattle.subset_build.proofs.letters.take_letters.Goals as goal

pub returns-in_err-next-clause-too_large : goal.returns-in_err-next-clause-too_large
returns-in_err-next-clause-too_large c =
    let p = err_from_is_err_and c.from_residual.result c.from_residual.ensures.1 in
    rw (p.1, p.2) (λ l e.
    let h = c.in_err-next.ensures.too_large l e in
    (h.0, fills_at (alphabet c.args.nfa.now) c.args.states.now.keys c.loop-column.states.keys c.args.q.now c.args.limit c.loop-column.column (omega (arith, c.loop-column-test.true, c.width-column-end.ensures)) c.loop-column.invariant.numbers h.1))

pub take_letter-requires-clause-dead : goal.take_letter-requires-clause-dead
take_letter-requires-clause-dead c = kept_at (alphabet c.args.nfa.now) c.args.states.now.keys c.loop-column.states.keys c.args.q.now (dead_state (alphabet c.args.nfa.now)) c.loop-column.column 0 c.loop-column.invariant.numbers c.requires.dead
