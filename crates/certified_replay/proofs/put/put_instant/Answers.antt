use Rattle.std.proofs.Common.{inr}
use Rattle.std.proofs.lemmas.Result.{err_from_is_err_and}
use Rattle.run_ends.specs.declared.cause.Cause.TheVariants as cause
use Rattle.certified_replay.proofs.Putting.{lines_put, lines_cut, cut_past}
use Rattle.certified_replay.proofs.put.put_instant.Goals as goal

pub returns-in-Ok-tell-clause-ok : goal.returns-in-Ok-tell-clause-ok
returns-in-Ok-tell-clause-ok g c = λ past verdicts certificate window s rising x.
    lines_put _ _ _ _ _ _ _ _ _ _ past verdicts certificate c.in-Ok.lines (c.in-Ok.ensures.adds past verdicts certificate window s rising x) c.in_ok-put_lines.ensures.ok c.in-Ok-tell.ensures.told

pub returns-in_err-put_lines-clause-err : goal.returns-in_err-put_lines-clause-err
returns-in_err-put_lines-clause-err g c =
    let p = err_from_is_err_and c.from_residual.result c.from_residual.ensures.1 in
    rw (p.1, p.2)
    (λ past verdicts certificate window s rising x. inr (lines_cut _ _ _ _ _ _ _ _ _ past verdicts certificate c.in-Ok.lines (c.in-Ok.ensures.adds past verdicts certificate window s rising x) c.in_err-put_lines.ensures.err))

pub returns-clause-err : goal.returns-clause-err
returns-clause-err g c = λ past verdicts certificate window s rising x.
    inr (lines_cut cause.Memory _ _ _ _ _ _ _ _ past verdicts certificate c.in-Ok.lines (c.in-Ok.ensures.adds past verdicts certificate window s rising x) (cut_past _ _ _ _ _ _ _ _ c.in_ok-put_lines.ensures.ok))
