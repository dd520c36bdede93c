use Rattle.std.proofs.lemmas.Result.{err_from_is_err_and}
use Rattle.position_nfa.specs.Views.{alphabet}
use Rattle.subset_build.proofs.Limits.{dead_past, start_past}
use Rattle.subset_build.proofs.family.first_states.Goals as goal

pub returns-in_err-put-clause-too_large : goal.returns-in_err-put-clause-too_large
returns-in_err-put-clause-too_large c =
    let p = err_from_is_err_and c.from_residual-in_err-put.result c.from_residual-in_err-put.ensures.1 in
    rw (p.1, p.2) (λ l e.
    let h = c.in_err-put.ensures.too_large l e in
    (h.0, dead_past (alphabet c.args.nfa.now) c.args.states.now.keys c.in_ok-dead.dead c.args.limit c.requires c.in_ok-dead.ensures h.1))

pub returns-in_err-put-2-clause-too_large : goal.returns-in_err-put-2-clause-too_large
returns-in_err-put-2-clause-too_large c =
    let p = err_from_is_err_and c.from_residual-in_err-put-2.result c.from_residual-in_err-put-2.ensures.1 in
    rw (p.1, p.2) (λ l e.
    let h = c.in_err-put-2.ensures.too_large l e in
    (h.0, start_past (alphabet c.args.nfa.now) c.args.states.now.keys c.put.new.states.keys c.in_ok-dead.dead c.in_ok-start.start c.args.limit c.requires c.in_ok-dead.ensures c.in_ok-put.ensures.ok c.in_ok-start.ensures h.1))
