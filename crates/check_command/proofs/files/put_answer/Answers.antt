use Rattle.std.proofs.Common.{◌≡◌, ◌∙◌, ap, refl, Err}
use Rattle.std.proofs.lemmas.Result.{err_from_is_err_and}
use Rattle.run_ends.proofs.Serving.{wrote, wrote_front, no_memory, rises}
use Rattle.check_command.specs.Check.{answer_text, ended_with}
use Rattle.check_command.proofs.Answered.{calm_answer, not_err}
use Rattle.check_command.proofs.files.put_answer.Goals as goal

pub returns-in_err-answer : goal.returns-in_err-answer
returns-in_err-answer g c = λ v.
    let p = err_from_is_err_and c.from_residual.result c.from_residual.ensures.1 in
    rw (p.1, p.2, c.in_err-answer.ensures.kinds) (no_memory _ _ _ _)

pub returns-in_default : goal.returns-in_default
returns-in_default g c = λ v. no_memory _ _ _ _

pub returns-in_err-put : goal.returns-in_err-put
returns-in_err-put g c = λ v.
    let p = err_from_is_err_and c.from_residual-in_err-put.result c.from_residual-in_err-put.ensures.1 in
    let text : c.as_bytes.result.now ≡ answer_text c.in_ok-answer.answer = c.as_bytes.ensures.value ∙ c.as_str.ensures.value ∙ c.in-Ok.ensures in
    rw (p.1, p.2)
    (wrote_front _ _ _ _ _ c.as_bytes.result.now (ended_with c.in_ok-answer.answer) c.in_err-put.field-0.0 (c.in_ok-answer.answer, (c.in_ok-answer.ensures.answer, (text, refl)))
    c.in_err-put.ensures.kinds c.in_err-put.ensures.err (rises _ _ c.in_err-put.field-0.0 _ c.in_err-put.ensures.later c.in_err-put.ensures.write c.in_err-put.ensures.quiet)
    (λ is still. c.in_err-put.ensures.calm still (ap Err is)) c.in_err-put.ensures.steady)

pub returns : goal.returns
returns g c = λ v.
    let text : c.as_bytes.result.now ≡ answer_text c.in_ok-answer.answer = c.as_bytes.ensures.value ∙ c.as_str.ensures.value ∙ c.in-Ok.ensures in
    rw (c.ended_by.ensures)
    (wrote _ _ _ _ _ c.as_bytes.result.now (ended_with c.in_ok-answer.answer) (c.in_ok-answer.answer, (c.in_ok-answer.ensures.answer, (text, refl))) (calm_answer c.in_ok-answer.answer)
    c.in_ok-put.ensures.ok (c.in_ok-put.ensures.quiet (λ is. not_err c.in_ok-put.field-0 _ is)) c.in_ok-put.ensures.steady)
