use Rattle.std.proofs.Common.{subst, sym}
use Rattle.std.proofs.lemmas.Result.{err_from_is_err_and}
use Rattle.run_ends.proofs.Serving.{stops, goes_on, judged_out, passed, made, not_made}
use Rattle.stimulus_commands.specs.Stim.{IsStimText}
use Rattle.stimulus_commands.proofs.stim.stim_file.Goals as goal

pub returns-in_err-wheel : goal.returns-in_err-wheel
returns-in_err-wheel g c = λ out.
    let p = err_from_is_err_and c.from_residual.result c.from_residual.ensures.1 in
    rw (p.1, p.2) (stops _ _ _ _ _ _ _ _ _ _ c.in_err-wheel.ensures)

pub returns-in_err-text : goal.returns-in_err-text
returns-in_err-text g c = λ out.
    let p = err_from_is_err_and c.from_residual-in_err-text.result c.from_residual-in_err-text.ensures.1 in
    let first = c.in_ok-wheel.ensures in
    rw (p.1, p.2) (goes_on _ _ _ _ _ _ _ _ c.in_ok-wheel.wheel.parts _ _ _ _ _ first.0 first.1 (judged_out _ _ _ _ _ _ c.in_err-text.field-0.0 c.in_err-text.ensures.kinds))

pub returns-in_err-make_file : goal.returns-in_err-make_file
returns-in_err-make_file g c = λ out.
    let p = err_from_is_err_and c.from_residual-in_err-make_file.result c.from_residual-in_err-make_file.ensures.1 in
    let w = c.in_ok-wheel.wheel.parts in
    let first = c.in_ok-wheel.ensures in
    let text = subst (IsStimText w c.args.form c.args.seed c.args.gaps) (sym c.deref.ensures.value) c.in_ok-text.ensures.text in
    rw (p.1, p.2)
    (goes_on _ _ _ _ _ _ _ _ w _ _ _ _ _ first.0 first.1
    (passed _ _ _ _ _ _ _ _ _ _ c.in_ok-text.ensures.passes (not_made _ _ _ _ _ c.deref.result.now _ text c.in_err-make_file.ensures)))

pub returns : goal.returns
returns g c = λ out.
    let w = c.in_ok-wheel.wheel.parts in
    let first = c.in_ok-wheel.ensures in
    let text = subst (IsStimText w c.args.form c.args.seed c.args.gaps) (sym c.deref.ensures.value) c.in_ok-text.ensures.text in
    goes_on _ _ _ _ _ _ _ _ w _ _ _ _ _ first.0 first.1
    (passed _ _ _ _ _ _ _ _ _ _ c.in_ok-text.ensures.passes (made _ _ _ _ _ c.deref.result.now text c.in_ok-make_file.ensures))
