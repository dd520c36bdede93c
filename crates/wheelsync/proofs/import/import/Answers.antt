use Rattle.std.proofs.Common.{◌∙◌, ap, refl, Err}
use Rattle.std.proofs.lemmas.Result.{err_from_is_err_and}
use Rattle.c_tables.specs.Slots.{slots_text}
use Rattle.run_ends.proofs.Serving.{stops, goes_on, wrote, wrote_front, no_memory, rises}
use Rattle.wheelsync.proofs.import.import.Goals as goal

pub returns-in_err-slots : goal.returns-in_err-slots
returns-in_err-slots g c =
    let p = err_from_is_err_and c.from_residual.result c.from_residual.ensures.1 in
    rw (p.1, p.2) (stops _ _ _ _ _ _ _ _ _ _ c.in_err-slots.ensures)

pub returns-in-Err : goal.returns-in-Err
returns-in-Err g c = goes_on _ _ _ _ _ _ _ _ c.in_ok-slots.slots.items _ _ _ _ _ c.in_ok-slots.ensures.0 c.in_ok-slots.ensures.1 (no_memory _ _ _ _)

pub returns-in_err-put : goal.returns-in_err-put
returns-in_err-put g c =
    let p = err_from_is_err_and c.from_residual-in_err-put.result c.from_residual-in_err-put.ensures.1 in
    rw (p.1, p.2)
    (goes_on _ _ _ _ _ _ _ _ c.in_ok-slots.slots.items _ _ _ _ _ c.in_ok-slots.ensures.0 c.in_ok-slots.ensures.1
    (wrote_front _ _ _ _ _ c.deref-2.result.now _ c.in_err-put.field-0.0 (c.deref-2.ensures.value ∙ c.in-Ok.ensures ∙ ap slots_text c.deref.ensures.value, refl) c.in_err-put.ensures.kinds
    c.in_err-put.ensures.err (rises _ _ c.in_err-put.field-0.0 _ c.in_err-put.ensures.later c.in_err-put.ensures.write c.in_err-put.ensures.quiet) (λ is still. c.in_err-put.ensures.calm still (ap Err is)) c.in_err-put.ensures.steady))

pub returns : goal.returns
returns g c =
    goes_on _ _ _ _ _ _ _ _ c.in_ok-slots.slots.items _ _ _ _ _ c.in_ok-slots.ensures.0 c.in_ok-slots.ensures.1
    (wrote _ _ _ _ _ c.deref-2.result.now _ (c.deref-2.ensures.value ∙ c.in-Ok.ensures ∙ ap slots_text c.deref.ensures.value, refl) tt c.in_ok-put.ensures.ok (c.in_ok-put.ensures.quiet (λ is. cc)) c.in_ok-put.ensures.steady)
