-- The digits of a time, before and after its point.
use Rattle.std.specs.Prelude.{ℕ, suc, ◌+◌, ◌*◌, ◌-◌, ◌^◌, ℤ, pos, negsuc, Bool, ◌==◌, List, ◌++◌, take, length}
use Rattle.capture_core.specs.Numerals.{number}
use Rattle.csv_capture.specs.Times.{Seconds}

-- the digit `0`
abbrev pub is_zero : ℕ → Bool
is_zero b = b == 48

-- the seconds that digits before and after the point spell
abbrev pub decimal : List ℕ → List ℕ → Seconds
decimal whole fraction = record { numerator = number (whole ++ fraction); denominator = 10 ^ length fraction }

-- how many digits stand before the point, once it goes to femtoseconds and as far as the exponent says; none where it goes past them all
abbrev pub moved_point : ℕ → ℤ → ℕ
moved_point whole (pos e) = whole + 15 + e
moved_point whole (negsuc e) = whole + 15 - suc e

-- the number of the first so many digits, with a zero for each that is missing
abbrev pub number_to : List ℕ → ℕ → ℕ
number_to digits count = number (take count digits) * 10 ^ (count - length digits)
