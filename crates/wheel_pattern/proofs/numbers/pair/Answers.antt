use Rattle.std.proofs.Common.{sym}
use Rattle.wheel_pattern.specs.Values.{whole}
use Rattle.wheel_pattern.proofs.Gathered.{too_few, too_many}
use Rattle.wheel_pattern.proofs.numbers.pair.Goals as goal

pub returns-in_default : goal.returns-in_default
returns-in_default c =
    let none = too_few whole whole c.as_slice.result.now c.in_default.len_below in
    rw (← c.in_ok-items.ensures, ← c.as_slice.ensures.value) (sym none)

pub returns-in_default-2 : goal.returns-in_default-2
returns-in_default-2 c =
    let none = too_many whole whole c.as_slice.result.now c.in_default.len_at_least in
    rw (← c.in_ok-items.ensures, ← c.as_slice.ensures.value) (sym none)
