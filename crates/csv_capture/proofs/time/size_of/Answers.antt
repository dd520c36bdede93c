use Rattle.std.proofs.Common.{◌++◌, sym}
use Rattle.csv_capture.proofs.Numbers.{digits-after, digits-before, some_digits}
use Rattle.csv_capture.proofs.time.size_of.Goals as goal

pub femtoseconds-requires-clause-whole : goal.femtoseconds-requires-clause-whole
femtoseconds-requires-clause-whole c =
    let whole = c.around_point.result.0.now in
    let fraction = c.around_point.result.1.now in
    digits-before whole fraction (some_digits (whole ++ fraction) (sym c.if-not-is_number.ensures))

pub femtoseconds-requires-clause-fraction : goal.femtoseconds-requires-clause-fraction
femtoseconds-requires-clause-fraction c =
    let whole = c.around_point.result.0.now in
    let fraction = c.around_point.result.1.now in
    digits-after whole fraction (some_digits (whole ++ fraction) (sym c.if-not-is_number.ensures))
