use Rattle.std.proofs.Common.{◌∙◌, sym, true≢false, arith, below_more}
use Rattle.position_nfa.specs.Views.{alphabet}
use Rattle.image_audit.proofs.Reaching.{found_is_reached, reached_is_found}
use Rattle.image_audit.proofs.reach.check_reached.Goals as goal

pub loop-q-init : goal.loop-q-init
loop-q-init c = λ q lt. absurd (omega (arith, lt))

pub returns-then-not-is_found-clause-first : goal.returns-then-not-is_found-clause-first
returns-then-not-is_found-clause-first c = (
  c.requires.agrees,
  record {
    before = c.loop-q.invariant;
    within = omega arith;
    unreached = λ reached.
        let there = reached_is_found (alphabet c.args.nfa.now) c.args.view.now.bytes.now c.requires.layout c.requires.agrees c.in_ok-found.found.keys c.loop-q.q c.in_ok-found.ensures.found (omega arith) reached in
        true≢false (sym (c.is_found.ensures.1 there) ∙ c.if-not-is_found.true);
  },
)

pub loop-q-preserved : goal.loop-q-preserved
loop-q-preserved c =
    let there = c.is_found.ensures.0 c.if-not-is_found.false in
    below_more _ _ c.loop-q.invariant
    (found_is_reached (alphabet c.args.nfa.now) c.args.view.now.bytes.now c.requires.layout c.requires.agrees c.requires.of_wheel c.in_ok-found.found.keys c.loop-q.q c.in_ok-found.ensures.found (omega arith) there)

pub returns-clause-same : goal.returns-clause-same
returns-clause-same c = record {
  rows = c.requires.agrees;
  reached = λ q lt. c.loop-q.invariant q (omega (arith, lt));
}
