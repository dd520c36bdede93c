use Rattle.std.proofs.Common.{sym, subst, ◌^◌}
use Rattle.std.proofs.lemmas.Result.{err_from_is_err_and}
use Rattle.wheel_types.specs.Verdicts.{AreWithin, IsRising}
use Rattle.stimulus.specs.Drawn.{IsStimulus}
use Rattle.stimulus.proofs.WritableFiles.{stimuli_are_writable}
use Rattle.run_ends.proofs.Serving.{stops, goes_on, judged_out, passed}
use Rattle.stimulus_commands.proofs.tested.self_test.Goals as goal

pub put_counts-requires-clause-rising : goal.put_counts-requires-clause-rising
put_counts-requires-clause-rising g c = subst IsRising (sym c.instants.ensures) c.in_ok-made.ensures.stimulus.rise

pub put_counts-requires-clause-sizes : goal.put_counts-requires-clause-sizes
put_counts-requires-clause-sizes g c =
    subst (AreWithin (10 ^ 24)) (sym c.instants.ensures)
    (stimuli_are_writable c.in_ok-wheel.field-0.wheel.parts c.args.seed c.args.gaps _ c.in_ok-wheel.ensures.built c.requires.few c.in_ok-made.ensures.passes.0 c.in_ok-made.ensures.stimulus).0

pub returns-in_err-wheel : goal.returns-in_err-wheel
returns-in_err-wheel g c =
    let p = err_from_is_err_and c.from_residual.result c.from_residual.ensures.1 in
    rw (p.1, p.2) (stops _ _ _ _ _ _ _ _ _ _ c.in_err-wheel.ensures.loads)

pub returns-in_err-test_states : goal.returns-in_err-test_states
returns-in_err-test_states g c =
    let p = err_from_is_err_and c.from_residual-in_err-test_states.result c.from_residual-in_err-test_states.ensures.1 in
    let w = c.in_ok-wheel.field-0.wheel.parts in
    let first = c.in_ok-wheel.ensures.loads in
    rw (p.1, p.2) (goes_on _ _ _ _ _ _ _ _ w _ _ _ _ _ first.0 first.1 (judged_out _ _ _ _ _ _ c.in_err-test_states.field-0.0 c.in_err-test_states.ensures.kinds))

pub returns-in_err-made : goal.returns-in_err-made
returns-in_err-made g c =
    let p = err_from_is_err_and c.from_residual-in_err-made.result c.from_residual-in_err-made.ensures.1 in
    let w = c.in_ok-wheel.field-0.wheel.parts in
    let first = c.in_ok-wheel.ensures.loads in
    rw (p.1, p.2)
    (goes_on _ _ _ _ _ _ _ _ w _ _ _ _ _ first.0 first.1
    (passed _ _ _ _ _ _ _ _ _ _ c.in_ok-test_states.ensures.passes (judged_out _ _ _ _ _ _ c.in_err-made.field-0.0 c.in_err-made.ensures.kinds)))

pub returns : goal.returns
returns g c =
    let v = g.S.Shelf.view c.load_model.new.shelf in
    let w = c.in_ok-wheel.field-0.wheel.parts in
    let first = c.in_ok-wheel.ensures.loads in
    let stimulus = subst (IsStimulus w c.args.seed c.args.gaps) (sym c.instants.ensures) c.in_ok-made.ensures.stimulus in
    goes_on _ _ _ _ _ _ _ _ w _ _ _ _ _ first.0 first.1
    (passed _ _ _ _ _ _ _ _ _ _ c.in_ok-test_states.ensures.passes
    (passed _ _ _ _ _ _ _ _ _ _ c.in_ok-made.ensures.passes (c.put_counts.ensures v w c.args.seed c.args.gaps c.in_ok-wheel.ensures.fresh stimulus)))
