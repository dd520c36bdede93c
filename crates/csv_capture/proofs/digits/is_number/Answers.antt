use Rattle.std.proofs.Common.{◌∙◌, ◌&&◌, Bool, sym, ap}
use Rattle.std.specs.List.{list_all}
use Rattle.capture_core.specs.Numerals.{is_digit}
use Rattle.csv_capture.proofs.Numbers.{are_digits-append}
use Rattle.csv_capture.proofs.digits.is_number.Goals as goal

pub returns-then-all_digits : goal.returns-then-all_digits
returns-then-all_digits c =
    let whole = c.args.whole.now in
    let fraction = c.args.fraction.now in
    c.all_digits-then-all_digits.ensures
    ∙ sym (are_digits-append whole fraction (sym c.is_empty.ensures ∙ c.if-is_empty.false)
    ∙ ap (λ (b : Bool). b && list_all is_digit fraction) (sym c.all_digits.ensures ∙ c.if-all_digits.true))

pub returns-else-all_digits : goal.returns-else-all_digits
returns-else-all_digits c =
    let whole = c.args.whole.now in
    let fraction = c.args.fraction.now in
    c.if-all_digits.false
    ∙ sym (are_digits-append whole fraction (sym c.is_empty.ensures ∙ c.if-is_empty.false)
    ∙ ap (λ (b : Bool). b && list_all is_digit fraction) (sym c.all_digits.ensures ∙ c.if-all_digits.false))
