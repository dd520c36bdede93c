use Rattle.std.proofs.Common.{arith}
use Rattle.capture_core.specs.Numerals.{number}
use Rattle.capture_core.proofs.Numerals.{next-least, number-short}
use Rattle.capture_core.proofs.digits.short_number.Goals as goal

pub overflow_mul-number : goal.overflow_mul-number
overflow_mul-number c =
    omega (arith, next-least c.digits.number c.digits.digit-index (number c.args.digits.now) c.args.digits.now (omega arith) c.digits.invariant.rest, number-short c.args.digits.now c.requires.digits c.requires.short)

pub overflow_add-number : goal.overflow_add-number
overflow_add-number c =
    omega (arith, next-least c.digits.number c.digits.digit-index (number c.args.digits.now) c.args.digits.now (omega arith) c.digits.invariant.rest, number-short c.args.digits.now c.requires.digits c.requires.short)
