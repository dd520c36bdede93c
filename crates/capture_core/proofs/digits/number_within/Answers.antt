use Rattle.std.proofs.Common.{arith}
use Rattle.capture_core.specs.Numerals.{number_after}
use Rattle.capture_core.proofs.Numerals.{next-least}
use Rattle.capture_core.proofs.digits.number_within.Goals as goal

pub returns-then-number-most-2 : goal.returns-then-number-most-2
returns-then-number-most-2 c =
    omega (arith, next-least c.digits.number c.digits.digit-index (number_after c.args.first c.args.digits.now) c.args.digits.now (omega arith) c.digits.invariant.rest)
