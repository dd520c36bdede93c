use Rattle.std.proofs.lemmas.Result.{err_from_is_err_and}
use Rattle.image_audit.proofs.Exact.{not_sound}
use Rattle.image_audit.proofs.sound.audit.Goals as goal

pub returns-in_err-check-clause-not_sound : goal.returns-in_err-check-clause-not_sound
returns-in_err-check-clause-not_sound c =
    let p = err_from_is_err_and c.from_residual.result c.from_residual.ensures.1 in
    rw (p.1, p.2) (λ ne image. not_sound c.args.view.bytes.now image c.in_err-check.field-0.0 ne c.in_err-check.ensures.first)
