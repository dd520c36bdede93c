use Rattle.std.proofs.Common.{ap, subst, sym, Err, Ok}
use Rattle.std.proofs.lemmas.Result.{err_from_is_err_and}
use Rattle.run_ends.specs.declared.cause.Done.TheVariants.{Whole}
use Rattle.run_ends.proofs.Serving.{wrote, wrote_front, no_memory, rises}
use Rattle.image_commands.specs.Audit.{IsAudited}
use Rattle.image_commands.proofs.audit.put_text.Goals as goal

pub returns-in_default : goal.returns-in_default
returns-in_default g c = λ v. no_memory _ _ _ _

pub returns-in_err-put : goal.returns-in_err-put
returns-in_err-put g c = λ v.
    let p = err_from_is_err_and c.from_residual.result c.from_residual.ensures.1 in
    let due = subst (λ text. IsAudited c.args.view.now.bytes.now text (Ok Whole)) (sym c.deref.ensures.value) c.in-Ok.ensures in
    rw (p.1, p.2)
    (wrote_front _ _ _ _ _ c.deref.result.now (Ok Whole) c.in_err-put.field-0.0 due
    c.in_err-put.ensures.kinds c.in_err-put.ensures.err (rises _ _ c.in_err-put.field-0.0 _ c.in_err-put.ensures.later c.in_err-put.ensures.write c.in_err-put.ensures.quiet)
    (λ is still. c.in_err-put.ensures.calm still (ap Err is)) c.in_err-put.ensures.steady)

pub returns : goal.returns
returns g c = λ v.
    let due = subst (λ text. IsAudited c.args.view.now.bytes.now text (Ok Whole)) (sym c.deref.ensures.value) c.in-Ok.ensures in
    wrote _ _ _ _ _ c.deref.result.now (Ok Whole) due tt c.in_ok-put.ensures.ok (c.in_ok-put.ensures.quiet (λ is. cc)) c.in_ok-put.ensures.steady
