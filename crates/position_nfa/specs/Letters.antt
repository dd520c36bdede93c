-- Columns, and the phases that their letters lead to.
use Rattle.std.specs.Prelude.{ℕ, ◌+◌, ◌-◌, ◌%◌, if◌then◌else◌, nat_lt, nat_le, ◌==◌, ◌||◌, Option, Some, None}

-- the phase to which the column's letter leads, if it is a letter of the phase. The first columns are time classes, the next ratio
-- classes, the last 26 shapes. Phase 0 has seen no crank edge, 1 one, 2 two or more; 3 has timed the first gap, 4 a later one, and 5
-- knows its ratio to the gap before. A shape without a crank edge stays in 0, 1 or 2; one with leads from 0 to 1, from 3 and 5 to 2.
abbrev pub leads : ℕ → ℕ → ℕ → ℕ → Option ℕ
leads times ratios phase column =
    if nat_lt column times
    then (if (phase == 1) || (phase == 2) then Some (phase + 2) else None)
    else if nat_lt column (times + ratios)
    then (if phase == 4 then Some 5 else None)
    else if (column - (times + ratios) + 1) % 3 == 0
    then (if nat_le phase 2 then Some phase else None)
    else if phase == 0
    then Some 1
    else if (phase == 3) || (phase == 5)
    then Some 2
    else None
