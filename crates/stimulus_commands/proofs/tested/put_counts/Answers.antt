use Rattle.std.proofs.Common.{◌∙◌, ap, refl, Ok, Err}
use Rattle.std.proofs.lemmas.Result.{err_from_is_err_and}
use Rattle.run_ends.specs.declared.cause.Done.TheVariants.{Whole}
use Rattle.run_ends.proofs.Serving.{wrote, wrote_front, no_memory, rises}
use Rattle.stimulus_commands.specs.SelfTest.{IsSelfTested}
use Rattle.stimulus_commands.proofs.tested.put_counts.Goals as goal

pub returns-in_default : goal.returns-in_default
returns-in_default g c = λ v w seed gaps f s. no_memory _ _ _ _

pub returns-in_default-counts_line : goal.returns-in_default-counts_line
returns-in_default-counts_line g c = λ v w seed gaps f s. no_memory _ _ _ _

pub returns-in_err-put : goal.returns-in_err-put
returns-in_err-put g c = λ v w seed gaps f s.
    let p = err_from_is_err_and c.from_residual.result c.from_residual.ensures.1 in
    let text = c.as_bytes.ensures.value ∙ c.as_str.ensures.value ∙ c.in-Ok-counts_line.ensures in
    let due : IsSelfTested w seed gaps c.as_bytes.result.now (Ok Whole) =
    (c.in-Ok.counts, (record { instants = c.args.instants.now; stimulus = s; counted = c.in-Ok.ensures w f }, (text, refl))) in
    rw (p.1, p.2)
    (wrote_front _ _ _ _ _ c.as_bytes.result.now _ c.in_err-put.field-0.0 due c.in_err-put.ensures.kinds
    c.in_err-put.ensures.err (rises _ _ c.in_err-put.field-0.0 _ c.in_err-put.ensures.later c.in_err-put.ensures.write c.in_err-put.ensures.quiet) (λ is still. c.in_err-put.ensures.calm still (ap Err is)) c.in_err-put.ensures.steady)

pub returns : goal.returns
returns g c = λ v w seed gaps f s.
    let text = c.as_bytes.ensures.value ∙ c.as_str.ensures.value ∙ c.in-Ok-counts_line.ensures in
    let due : IsSelfTested w seed gaps c.as_bytes.result.now (Ok Whole) =
    (c.in-Ok.counts, (record { instants = c.args.instants.now; stimulus = s; counted = c.in-Ok.ensures w f }, (text, refl))) in
    wrote _ _ _ _ _ c.as_bytes.result.now _ due tt c.in_ok-put.ensures.ok (c.in_ok-put.ensures.quiet (λ is. cc)) c.in_ok-put.ensures.steady
