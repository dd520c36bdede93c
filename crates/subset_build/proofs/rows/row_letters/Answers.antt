use Rattle.std.proofs.Common.{◌≡◌, ◌++◌, ◌∷◌, [], ◌<◌, ◌+◌, ◌*◌, length, length-append, sym, ap, subst, ◌∙◌, arith}
use Rattle.std.proofs.lemmas.Result.{err_from_is_err_and}
use Rattle.position_nfa.specs.Alphabets.{width}
use Rattle.position_nfa.specs.Sound.{AreDue}
use Rattle.position_nfa.specs.Step.{dead_state}
use Rattle.position_nfa.specs.Views.{alphabet}
use Rattle.subset_build.proofs.Limits.{fills_at}
use Rattle.subset_build.proofs.RowLaws.{kept_at, due_more, letter_more, letter_keeps}
use Rattle.subset_build.proofs.rows.row_letters.Goals as goal

pub take_letter-requires-clause-dead : goal.take_letter-requires-clause-dead
take_letter-requires-clause-dead c = kept_at (alphabet c.args.nfa.now) c.args.states.now.keys c.loop-column.states.keys c.args.q.now (dead_state (alphabet c.args.nfa.now)) c.loop-column.column 0 c.loop-column.invariant.numbers c.requires.dead

pub returns-in_err-next-clause-too_large : goal.returns-in_err-next-clause-too_large
returns-in_err-next-clause-too_large c =
    let p = err_from_is_err_and c.from_residual.result c.from_residual.ensures.1 in
    rw (p.1, p.2) (λ l e.
    let h = c.in_err-next.ensures.too_large l e in
    (h.0, fills_at (alphabet c.args.nfa.now) c.args.states.now.keys c.loop-column.states.keys c.args.q.now c.args.limit c.loop-column.column (omega (arith, c.loop-column-test.true, c.width-column-end.ensures)) c.loop-column.invariant.numbers h.1))

pub loop-column-preserved : goal.loop-column-preserved
loop-column-preserved c =
    let a = alphabet c.args.nfa.now in
    let old = c.loop-column.states.keys in
    let new = c.take_letter.new.states.keys in
    let q = c.args.q.now in
    let column = c.loop-column.column in
    let at = kept_at a c.args.states.now.keys old q q column c.args.number c.loop-column.invariant.numbers c.requires.state in
    let within : column < width a = omega (arith, c.loop-column-test.true, c.width-column-end.ensures) in
    let pushed : c.push.new.self.items ≡ c.loop-column.rows.items ++ c.in_ok-next.to ∷ [] = c.in_ok-push.ensures.items in
    let more : AreDue a new (c.loop-column.rows.items ++ c.in_ok-next.to ∷ []) = due_more a old new c.loop-column.rows.items q c.args.number column c.in_ok-next.to (letter_keeps a old new q column c.in_ok-next.ensures.numbers) at within c.loop-column.invariant.long c.loop-column.invariant.due c.in_ok-next.ensures.due in
    let size : length c.push.new.self.items ≡ length c.loop-column.rows.items + 1 = ap length pushed ∙ length-append c.loop-column.rows.items (c.in_ok-next.to ∷ []) in
    record {
      numbers = letter_more a c.args.states.now.keys old new q column c.loop-column.invariant.numbers c.in_ok-next.ensures.numbers;
      small = c.in_ok-next.ensures.within;
      room = c.in_ok-next.ensures.room;
      due = subst (AreDue a new) (sym pushed) more;
      long = omega (arith, size, c.loop-column.invariant.long);
    }
