use Rattle.std.proofs.Common.{subst, sym}
use Rattle.std.proofs.lemmas.Result.{err_from_is_err_and}
use Rattle.table_images.specs.Images.{IsCompiled}
use Rattle.table_commands.specs.States.{given_limit}
use Rattle.run_ends.proofs.Serving.{stops, goes_on, passed, made, not_made}
use Rattle.compile_command.proofs.Compiling.{no_image, few_states}
use Rattle.compile_command.proofs.image.compile_file.Goals as goal

pub returns-in_err-wheel : goal.returns-in_err-wheel
returns-in_err-wheel g c = λ out.
    let p = err_from_is_err_and c.from_residual.result c.from_residual.ensures.1 in
    rw (p.1, p.2) (stops _ _ _ _ _ _ _ _ _ _ c.in_err-wheel.ensures)

pub returns-in_err-bytes : goal.returns-in_err-bytes
returns-in_err-bytes g c = λ out.
    let p = err_from_is_err_and c.from_residual-in_err-bytes.result c.from_residual-in_err-bytes.ensures.1 in
    let first = c.in_ok-wheel.ensures in
    rw (p.1, p.2) (no_image _ _ _ _ c.in_ok-wheel.wheel.parts _ _ first.0 first.1.0 first.1.1 c.in_err-bytes.ensures.none)

pub returns-in_err-make_file : goal.returns-in_err-make_file
returns-in_err-make_file g c = λ out.
    let p = err_from_is_err_and c.from_residual-in_err-make_file.result c.from_residual-in_err-make_file.ensures.1 in
    let w = c.in_ok-wheel.wheel.parts in
    let first = c.in_ok-wheel.ensures in
    let image = subst (IsCompiled w given_limit) (sym c.deref.ensures.value) c.in_ok-bytes.ensures.image in
    rw (p.1, p.2)
    (goes_on _ _ _ _ _ _ _ _ w _ _ _ _ _ first.0 ((λ told. record { wheel = first.1.0 told; few = c.in_ok-bytes.ensures.few }), first.1.1)
    (passed _ _ _ _ _ _ _ _ _ _ (few_states w _ image) (not_made _ _ _ _ _ c.deref.result.now _ image c.in_err-make_file.ensures)))

pub returns : goal.returns
returns g c = λ out.
    let w = c.in_ok-wheel.wheel.parts in
    let first = c.in_ok-wheel.ensures in
    let image = subst (IsCompiled w given_limit) (sym c.deref.ensures.value) c.in_ok-bytes.ensures.image in
    goes_on _ _ _ _ _ _ _ _ w _ _ _ _ _ first.0 ((λ told. record { wheel = first.1.0 told; few = c.in_ok-bytes.ensures.few }), first.1.1)
    (passed _ _ _ _ _ _ _ _ _ _ (few_states w _ image) (made _ _ _ _ _ c.deref.result.now image c.in_ok-make_file.ensures))
