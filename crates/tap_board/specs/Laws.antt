-- What follows for taps that are told many marks.
use Rattle.std.specs.Prelude.{◌≡◌, ℕ, ◌+◌, ◌<◌, false, List, ◌++◌, length, map, filter, take, IsTrue, ◌↔◌}
use Rattle.tap_board.specs.Meanings.{Meaning, told_all, marked_by, stays}

-- those that stay are live, in order, with exactly these marks behind those that they had
abbrev pub TapsHaveAllMarks : Type 0
TapsHaveAllMarks = (ms : List ℕ) (taps : List Meaning) → told_all ms taps ≡ map (marked_by ms) (filter (stays ms) taps)

-- a tap stays exactly where it stops at none of the lists that the marks make one by one
abbrev pub StayingIsNotStopping : Type 0
StayingIsNotStopping = (ms : List ℕ) (t : Meaning)
    → IsTrue (stays ms t) ↔ ((k : ℕ) → k < length ms → t.stops (t.marks ++ take (k + 1) ms) ≡ false)
