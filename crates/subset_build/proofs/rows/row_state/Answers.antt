use Rattle.std.proofs.lemmas.Result.{err_from_is_err_and}
use Rattle.position_nfa.specs.Alphabets.{width}
use Rattle.position_nfa.specs.Views.{alphabet}
use Rattle.subset_build.proofs.Limits.{state-is_set, grows, state_past}
use Rattle.subset_build.proofs.RowLaws.{first_at}
use Rattle.subset_build.proofs.rows.row_state.Goals as goal

pub row_letters-requires-clause-set : goal.row_letters-requires-clause-set
row_letters-requires-clause-set c = state-is_set (alphabet c.args.nfa.now) c.args.states.now.keys c.args.q c.in_ok-state.state c.requires.state.1 c.in_ok-state.ensures

pub row_letters-requires-clause-dead : goal.row_letters-requires-clause-dead
row_letters-requires-clause-dead c = first_at (alphabet c.args.nfa.now) c.args.states.now.keys c.args.q c.requires.state.1

pub returns-clause-grows : goal.returns-clause-grows
returns-clause-grows c = grows (alphabet c.args.nfa.now) c.args.states.now.keys c.row_letters.new.states.keys c.in_ok-state.state (width (alphabet c.args.nfa.now)) c.in_ok-room.ensures.numbers

pub returns-in_err-room-clause-too_large : goal.returns-in_err-room-clause-too_large
returns-in_err-room-clause-too_large c =
    let p = err_from_is_err_and c.from_residual-in_err-room.result c.from_residual-in_err-room.ensures.1 in
    rw (p.1, p.2) (λ l e.
    let h = c.in_err-room.ensures.too_large l e in
    (h.0, state_past (alphabet c.args.nfa.now) c.args.states.now.keys c.args.q c.args.limit c.in_ok-state.state c.requires.state.1 c.in_ok-state.ensures h.1))
