use Rattle.std.proofs.Common.{◌≡◌, length, get_or, sym, ap, ◌∙◌, arith, below_more}
use Rattle.position_nfa.specs.Sets.{all_places}
use Rattle.position_nfa.specs.Views.{alphabet}
use Rattle.image_audit.proofs.StartLaws.{start_differs, start_agrees, all_long}
use Rattle.image_audit.proofs.start.check_set.Goals as goal

pub bounds-all-word : goal.bounds-all-word
bounds-all-word c =
    let long = all_long (alphabet c.args.nfa.now) c.args.view.now.bytes.now c.requires.lists in
    let size : length c.args.all.now ≡ length (all_places (alphabet c.args.nfa.now)) = ap (λ l. length l) c.requires.all in
    omega (arith, long, size)

pub returns-then-found-due-clause-first : goal.returns-then-found-due-clause-first
returns-then-found-due-clause-first c =
    start_differs (alphabet c.args.nfa.now) c.args.view.now.bytes.now c.loop-word.word c.member-found.result (get_or c.args.all.now c.loop-word.word 0) c.requires.lists (omega arith) c.member-found.ensures
    (ap (λ l. get_or l c.loop-word.word 0) c.requires.all) c.if-found-due.true c.loop-word.invariant

pub loop-word-preserved : goal.loop-word-preserved
loop-word-preserved c = below_more _ _ c.loop-word.invariant (sym c.member-found.ensures ∙ (c.if-found-due.false ∙ ap (λ l. get_or l c.loop-word.word 0) c.requires.all))

pub returns-clause-same : goal.returns-clause-same
returns-clause-same c = start_agrees (alphabet c.args.nfa.now) c.args.view.now.bytes.now c.loop-word.word c.requires.lists (omega arith) c.loop-word.invariant
