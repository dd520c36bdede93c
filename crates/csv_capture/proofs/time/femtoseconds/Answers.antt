use Rattle.std.proofs.Common.{true, false, sym, refl, arith, rules}
use Rattle.csv_capture.proofs.Decimals.{femtoseconds-exact, femtoseconds-fine, femtoseconds-large, femtoseconds-over, parts_known}
use Rattle.csv_capture.proofs.time.femtoseconds.Goals as goal

pub returns-in_default-clause-value : goal.returns-in_default-clause-value
returns-in_default-clause-value c =
    let whole = c.args.whole.now in
    let fraction = c.args.fraction.now in
    let parts = parts_known whole fraction c.args.exponent _ _ _ c.requires.whole c.requires.fraction (search rules) refl refl in
    sym (femtoseconds-large _ _ _ parts c.in_default.ensures)

pub returns-then-is_whole_at-clause-value : goal.returns-then-is_whole_at-clause-value
returns-then-is_whole_at-clause-value c =
    let whole = c.args.whole.now in
    let fraction = c.args.fraction.now in
    let (value, bound) = c.in-Some.ensures in
    let parts = parts_known whole fraction c.args.exponent c.moved_point-count.result c.in-Some.size true c.requires.whole c.requires.fraction (search rules) value c.if-is_whole_at.ensures in
    sym (femtoseconds-exact _ _ parts bound)

pub returns-then-size-lt-LAST_TIME-clause-value : goal.returns-then-size-lt-LAST_TIME-clause-value
returns-then-size-lt-LAST_TIME-clause-value c =
    let whole = c.args.whole.now in
    let fraction = c.args.fraction.now in
    let (value, bound) = c.in-Some.ensures in
    let parts = parts_known whole fraction c.args.exponent c.moved_point-count.result c.in-Some.size false c.requires.whole c.requires.fraction (search rules) value c.if-is_whole_at.ensures in
    sym (femtoseconds-fine _ _ parts c.if-size-lt-LAST_TIME.true)

pub returns-else-size-lt-LAST_TIME-clause-value : goal.returns-else-size-lt-LAST_TIME-clause-value
returns-else-size-lt-LAST_TIME-clause-value c =
    let whole = c.args.whole.now in
    let fraction = c.args.fraction.now in
    let (value, bound) = c.in-Some.ensures in
    let parts = parts_known whole fraction c.args.exponent c.moved_point-count.result c.in-Some.size false c.requires.whole c.requires.fraction (search rules) value c.if-is_whole_at.ensures in
    sym (femtoseconds-over _ _ parts (omega (arith, bound, c.if-size-lt-LAST_TIME.false)))
