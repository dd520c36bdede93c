use Rattle.std.proofs.Common.{subst, sym, arith, rules}
use Rattle.place_words.specs.Words.{IsSet}
use Rattle.position_nfa.specs.Alphabets.{count}
use Rattle.position_nfa.specs.Views.{alphabet}
use Rattle.image_audit.proofs.RowLaws.{keys_long, says_of_state, kinds_more}
use Rattle.image_audit.proofs.kinds.check_kinds.Goals as goal

pub numbered-state-requires : goal.numbered-state-requires
numbered-state-requires c = omega (arith, keys_long c.args.view.now.bytes.now c.args.states.now.keys c.requires.states)

pub kind_of-due-requires : goal.kind_of-due-requires
kind_of-due-requires c = record {
  set = subst (IsSet (count (alphabet c.args.nfa.now))) (sym c.as_slice.ensures) (c.requires.sets c.loop-q.q c.numbered-state.result.now c.numbered-state.ensures);
}

pub returns-then-ne-clause-first : goal.returns-then-ne-clause-first
returns-then-ne-clause-first c = (
  c.requires.agrees,
  record {
    before = c.loop-q.invariant;
    within = omega arith;
    found = c.kind-found.ensures;
    due = says_of_state (alphabet c.args.nfa.now) c.args.view.now.bytes.now c.args.states.now.keys c.loop-q.q c.numbered-state.result.now c.as_slice.result.now c.kind_of-due.result c.requires.states c.numbered-state.ensures c.as_slice.ensures c.kind_of-due.ensures;
    differ = search rules;
  },
)

pub loop-q-preserved : goal.loop-q-preserved
loop-q-preserved c =
    let a = alphabet c.args.nfa.now in
    let b = c.args.view.now.bytes.now in
    kinds_more a b c.loop-q.q c.kind-found.result c.kind_of-due.result c.loop-q.invariant c.kind-found.ensures (search rules)
    (says_of_state a b c.args.states.now.keys c.loop-q.q c.numbered-state.result.now c.as_slice.result.now c.kind_of-due.result c.requires.states c.numbered-state.ensures c.as_slice.ensures c.kind_of-due.ensures)
