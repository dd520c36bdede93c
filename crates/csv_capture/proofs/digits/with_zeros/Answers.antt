use Rattle.std.proofs.Common.{◌^◌, arith}
use Rattle.std.proofs.lemmas.Nat.{mul-le}
use Rattle.capture_core.proofs.Numerals.{ten-le}
use Rattle.csv_capture.proofs.digits.with_zeros.Goals as goal

pub returns-then-zeros-gt-LAST_ZEROS : goal.returns-then-zeros-gt-LAST_ZEROS
returns-then-zeros-gt-LAST_ZEROS c =
    omega (arith, ten-le 25 c.args.zeros (omega arith), mul-le 1 (10 ^ c.args.zeros) c.args.number (10 ^ c.args.zeros) (omega (arith, c.if-number-eq0.false)) (omega arith))

pub pow-requires : goal.pow-requires
pow-requires c = omega (arith, ten-le c.args.zeros 24 (omega arith))
