use Rattle.std.proofs.Common.{◌∙◌, sym}
use Rattle.capture_core.proofs.Numerals.{number_after-shift}
use Rattle.capture_core.proofs.digits.short_number_after.Goals as goal

pub returns : goal.returns
returns c =
    rw (c.from.ensures, c.from-2.ensures ∙ c.pow-power.ensures, c.from-3.ensures ∙ c.short_number.ensures)
    (sym (number_after-shift c.args.first c.args.digits.now))
