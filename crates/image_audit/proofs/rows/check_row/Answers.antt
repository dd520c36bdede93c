use Rattle.std.proofs.Common.{◌≡◌, Some, slice_get, ap, sym, subst, ◌∙◌, true≢false, arith}
use Rattle.position_nfa.specs.Step.{dead_state}
use Rattle.position_nfa.specs.Views.{alphabet}
use Rattle.image_audit.proofs.Firsts.{state_listed, dead_is}
use Rattle.image_audit.proofs.RowLaws.{keys_long, due_of_state, entry_more, row_more}
use Rattle.image_audit.proofs.Sizes.{width_same}
use Rattle.image_audit.proofs.rows.check_row.Goals as goal

pub numbered-state-requires : goal.numbered-state-requires
numbered-state-requires c = omega (arith, keys_long c.args.view.now.bytes.now c.args.states.now.keys c.requires.states)

pub due_number-next-requires-clause-dead : goal.due_number-next-requires-clause-dead
due_number-next-requires-clause-dead c =
    let a = alphabet c.args.nfa.now in
    let b = c.args.view.now.bytes.now in
    let some = c.requires.layout.header.counts.states.0 in
    subst (λ l. slice_get l 0 ≡ Some (dead_state a)) (sym c.requires.states) (state_listed b 0 (omega (arith, some)) ∙ ap Some (dead_is a b c.requires.layout c.requires.agrees.states))

pub due_number-next-requires-clause-few : goal.due_number-next-requires-clause-few
due_number-next-requires-clause-few c =
    let most = c.requires.layout.header.counts.states.1 in
    omega (arith, most, keys_long c.args.view.now.bytes.now c.args.states.now.keys c.requires.states)

pub due_number-next-requires-clause-set : goal.due_number-next-requires-clause-set
due_number-next-requires-clause-set c = c.requires.sets c.args.q c.numbered-state.result.now c.numbered-state.ensures

pub due_number-next-requires-clause-column : goal.due_number-next-requires-clause-column
due_number-next-requires-clause-column c =
    let wide = width_same (alphabet c.args.nfa.now) c.args.view.now.bytes.now c.requires.agrees.states.started.lists in
    omega (arith, wide)

pub returns-then-not-is_due-clause-first : goal.returns-then-not-is_due-clause-first
returns-then-not-is_due-clause-first c = (
  c.requires.agrees,
  record {
    before = c.loop-column.invariant.due;
    within = c.requires.there;
    column = omega arith;
    found = c.entry-found.ensures.entry;
    due = due_of_state (alphabet c.args.nfa.now) c.args.view.now.bytes.now c.args.states.now.keys c.args.q c.loop-column.column c.numbered-state.result.now c.due_number-next.result.1 c.requires.states c.numbered-state.ensures c.due_number-next.ensures.due;
    differ = λ e. true≢false (sym (c.is_due.ensures.1 e) ∙ c.if-not-is_due.true);
  },
)

pub loop-column-preserved : goal.loop-column-preserved
loop-column-preserved c =
    let a = alphabet c.args.nfa.now in
    let b = c.args.view.now.bytes.now in
    record {
      due = entry_more a b c.args.q c.loop-column.column c.entry-found.result c.due_number-next.result.1 c.loop-column.invariant.due c.entry-found.ensures.entry (sym (c.is_due.ensures.0 c.if-not-is_due.false))
          (due_of_state a b c.args.states.now.keys c.args.q c.loop-column.column c.numbered-state.result.now c.due_number-next.result.1 c.requires.states c.numbered-state.ensures c.due_number-next.ensures.due);
      room = c.due_number-next.ensures.room;
    }

pub returns-clause-same : goal.returns-clause-same
returns-clause-same c = row_more (alphabet c.args.nfa.now) c.args.view.now.bytes.now c.args.q c.loop-column.column c.requires.agrees.states.started.lists (omega arith) c.loop-column.invariant.due
