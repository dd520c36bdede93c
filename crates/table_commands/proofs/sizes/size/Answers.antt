use Rattle.std.proofs.Common.{◌∙◌, ap, Err}
use Rattle.std.proofs.lemmas.Result.{err_from_is_err_and}
use Rattle.position_nfa.specs.Alphabets.{wheel}
use Rattle.position_nfa.specs.Views.{alphabet}
use Rattle.run_ends.proofs.Serving.{stops, goes_on, judged_out, passed, wrote, wrote_front, no_memory, rises}
use Rattle.table_commands.proofs.Sizing.{sized}
use Rattle.table_commands.proofs.sizes.size.Goals as goal

pub returns-in_err-nfa : goal.returns-in_err-nfa
returns-in_err-nfa g c =
    let p = err_from_is_err_and c.from_residual.result c.from_residual.ensures.1 in
    rw (p.1, p.2) (stops _ _ _ _ _ _ _ _ _ _ c.in_err-nfa.ensures.loads)

pub returns-in_err-states : goal.returns-in_err-states
returns-in_err-states g c =
    let p = err_from_is_err_and c.from_residual-in_err-states.result c.from_residual-in_err-states.ensures.1 in
    let w = wheel (alphabet c.in_ok-nfa.nfa) in
    let first = c.in_ok-nfa.ensures.loads in
    rw (p.1, p.2) (goes_on _ _ _ _ _ _ _ _ w _ _ _ _ _ first.0 first.1 (judged_out _ _ _ _ _ _ c.in_err-states.field-0.0 c.in_err-states.ensures.kinds))

pub returns-in-Err : goal.returns-in-Err
returns-in-Err g c =
    let w = wheel (alphabet c.in_ok-nfa.nfa) in
    let first = c.in_ok-nfa.ensures.loads in
    goes_on _ _ _ _ _ _ _ _ w _ _ _ _ _ first.0 first.1 (passed _ _ _ _ _ _ _ _ _ _ c.in_ok-states.ensures.few (no_memory _ _ _ _))

pub returns-in_err-put : goal.returns-in_err-put
returns-in_err-put g c =
    let p = err_from_is_err_and c.from_residual-in_err-put.result c.from_residual-in_err-put.ensures.1 in
    let w = wheel (alphabet c.in_ok-nfa.nfa) in
    let first = c.in_ok-nfa.ensures.loads in
    let due = sized c.in_ok-nfa.nfa c.cuts-cuts.result.now _ _ _ _ c.as_bytes.result.now c.in_ok-nfa.ensures.own c.cuts-cuts.ensures c.place_count.ensures.count c.time_count.ensures c.ratio_count.ensures
    c.in_ok-states.ensures.counts (c.as_bytes.ensures.value ∙ c.in-Ok.ensures) in
    rw (p.1, p.2)
    (goes_on _ _ _ _ _ _ _ _ w _ _ _ _ _ first.0 first.1
    (passed _ _ _ _ _ _ _ _ _ _ c.in_ok-states.ensures.few
    (wrote_front _ _ _ _ _ c.as_bytes.result.now _ c.in_err-put.field-0.0 due c.in_err-put.ensures.kinds
    c.in_err-put.ensures.err (rises _ _ c.in_err-put.field-0.0 _ c.in_err-put.ensures.later c.in_err-put.ensures.write c.in_err-put.ensures.quiet) (λ is still. c.in_err-put.ensures.calm still (ap Err is)) c.in_err-put.ensures.steady)))

pub returns : goal.returns
returns g c =
    let w = wheel (alphabet c.in_ok-nfa.nfa) in
    let first = c.in_ok-nfa.ensures.loads in
    let due = sized c.in_ok-nfa.nfa c.cuts-cuts.result.now _ _ _ _ c.as_bytes.result.now c.in_ok-nfa.ensures.own c.cuts-cuts.ensures c.place_count.ensures.count c.time_count.ensures c.ratio_count.ensures
    c.in_ok-states.ensures.counts (c.as_bytes.ensures.value ∙ c.in-Ok.ensures) in
    goes_on _ _ _ _ _ _ _ _ w _ _ _ _ _ first.0 first.1
    (passed _ _ _ _ _ _ _ _ _ _ c.in_ok-states.ensures.few
    (wrote _ _ _ _ _ c.as_bytes.result.now _ due tt c.in_ok-put.ensures.ok (c.in_ok-put.ensures.quiet (λ is. cc)) c.in_ok-put.ensures.steady))
