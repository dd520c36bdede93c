use Rattle.std.proofs.Common.{◌≡◌, ◌++◌, ◌∷◌, [], length, ap, ◌∙◌, arith, false, if◌then◌else◌}
use Rattle.std.specs.Prelude.{map}
use Rattle.std.specs.List.{list_any}
use Rattle.wheel_types.specs.Edges.{below}
use Rattle.image_layout.specs.Layout.{state_total}
use Rattle.position_nfa.specs.declared.pair.Pair.{Pair}
use Rattle.position_nfa.specs.Step.{same}
use Rattle.position_nfa.specs.Views.{alphabet}
use Rattle.image_audit.specs.Agreements.{named}
use Rattle.image_audit.proofs.Sizes.{length-listed}
use Rattle.image_audit.proofs.Numbering.{first_small, first_below, none_new, numbered_more, once_more, repeats, sets_more, all_named}
use Rattle.image_audit.proofs.states.number_states.Goals as goal

pub overflow_cast-first : goal.overflow_cast-first
overflow_cast-first c =
    let b = c.args.view.now.bytes.now in
    let size : length c.loop-q.states.keys ≡ c.loop-q.q = ap length c.loop-q.invariant.keys ∙ length-listed (named b) c.loop-q.q in
    let small = first_small (length c.insert_full.new.self.keys) (length c.loop-q.states.keys) c.in_ok-first.first c.in_ok-first.is_new c.in_ok-first.ensures.within c.in_ok-first.ensures.len in
    let most = c.requires.layout.header.counts.states.1 in
    omega (arith, size, small, most)

pub returns-then-not-is_new-clause-first : goal.returns-then-not-is_new-clause-first
returns-then-not-is_new-clause-first c =
    let b = c.args.view.now.bytes.now in
    let keys = c.loop-q.states.keys in
    let lt = first_below (length c.insert_full.new.self.keys) (length keys) c.in_ok-first.first c.in_ok-first.is_new c.in_ok-first.ensures.within c.in_ok-first.ensures.len c.if-not-is_new.true in
    (c.requires.started, repeats b c.loop-q.q c.in_ok-state.state keys c.in_ok-state.ensures.state c.loop-q.invariant.keys c.in_ok-first.first c.in_ok-first.ensures.index lt c.loop-q.invariant.once (omega arith))

pub loop-q-preserved : goal.loop-q-preserved
loop-q-preserved c =
    let b = c.args.view.now.bytes.now in
    let q = c.loop-q.q in
    let keys = c.loop-q.states.keys in
    let state : Pair = c.in_ok-state.state in
    let none : list_any (same state) keys ≡ false = none_new c.in_ok-first.is_new (list_any (same state) keys) c.in_ok-first.ensures.added c.if-not-is_new.false in
    record {
      keys = numbered_more b q state keys c.in_ok-state.ensures.state c.loop-q.invariant.keys c.insert_full.new.self.keys none c.in_ok-first.ensures.keys;
      once = once_more b q state keys c.in_ok-state.ensures.state c.loop-q.invariant.keys none c.loop-q.invariant.once;
      sets = sets_more (alphabet c.args.nfa.now) keys c.insert_full.new.self.keys state c.loop-q.invariant.sets (c.in_ok-first.ensures.keys ∙ ap (λ t. if t then keys else keys ++ state ∷ []) none) c.in_ok-state.ensures.set;
    }

pub returns-clause-once : goal.returns-clause-once
returns-clause-once c = record {
  started = c.requires.started;
  once = λ k q lt there. c.loop-q.invariant.once k q lt (omega (arith, there));
}

pub returns-clause-states : goal.returns-clause-states
returns-clause-states c =
    let b = c.args.view.now.bytes.now in
    let all : c.loop-q.q ≡ state_total b = omega arith in
    c.loop-q.invariant.keys ∙ (ap (λ n. map (named b) (below n)) all ∙ all_named b c.requires.layout (λ k q lt there. c.loop-q.invariant.once k q lt (omega (arith, there))))
