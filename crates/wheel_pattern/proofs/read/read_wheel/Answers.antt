use Rattle.std.proofs.lemmas.Result.{err_from_is_err_and}
use Rattle.wheel_pattern.proofs.FileFaults.{given_fault}
use Rattle.wheel_pattern.proofs.read.read_wheel.Goals as goal

pub returns-in_err-parts-clause-fault : goal.returns-in_err-parts-clause-fault
returns-in_err-parts-clause-fault c =
    let p = err_from_is_err_and c.from_residual.result c.from_residual.ensures.1 in
    rw (p.1, p.2) (λ other. given_fault c.args.bytes.now c.in_err-parts.field-0.0 (c.in_err-parts.ensures (λ e. other (cc))))
