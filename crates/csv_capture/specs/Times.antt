-- The time that a field spells: a decimal number of seconds, where it is a whole number of femtoseconds.
use Rattle.std.specs.Prelude.{ℕ, suc, ◌*◌, ◌/◌, ◌%◌, ◌^◌, ℤ, pos, negsuc, neg_ℤ, Bool, false, ◌&&◌, ◌||◌, ◌==◌, nat_lt, nat_le, if◌then◌else◌, List, [], ◌∷◌, ◌++◌, length, Option, Some, None, Result, Ok, Err}
use Rattle.std.specs.List.{list_all, list_any, before_first, after_first}
use Rattle.capture_core.specs.Numerals.{is_digit, number}
use Rattle.csv_capture.specs.declared.time.TimeFault.{TimeFault}
use Rattle.csv_capture.specs.declared.time.TimeFault.TheVariants.{Bad, TooLarge, TooFine}

-- the decimal point
abbrev pub is_point : ℕ → Bool
is_point b = b == 46

-- the letter before an exponent, `e` or `E`
abbrev pub is_mark : ℕ → Bool
is_mark b = (b == 101) || (b == 69)

-- a `+` or a `-`
abbrev pub is_sign : ℕ → Bool
is_sign b = (b == 43) || (b == 45)

-- one digit or more, and no other byte
abbrev pub are_digits : List ℕ → Bool
are_digits [] = false
are_digits (b ∷ bytes) = list_all is_digit (b ∷ bytes)

-- the text after its sign, if it has one
abbrev pub unsigned : List ℕ → List ℕ
unsigned [] = []
unsigned (b ∷ bytes) = if is_sign b then bytes else b ∷ bytes

-- the text begins with a `-`
abbrev pub is_negative : List ℕ → Bool
is_negative [] = false
is_negative (b ∷ bytes) = b == 45

-- the number with a sign
abbrev pub signed : Bool → ℕ → ℤ
signed negative n = if negative then neg_ℤ (pos n) else pos n

-- a number of seconds: a fraction
pub record Seconds : Type 0 where
  pub numerator : ℕ
  pub denominator : ℕ

-- the seconds that digits spell with at most one point among them: the digits' number, over ten to the power of how many follow the point
abbrev pub decimal_of : List ℕ → Option Seconds
decimal_of text =
    let whole = before_first is_point text in
    let fraction = after_first is_point text in
    if are_digits (whole ++ fraction) then Some (record { numerator = number (whole ++ fraction); denominator = 10 ^ length fraction }) else None

-- the whole number that a text spells as an exponent: an optional sign and digits of a value of at most 9,999
abbrev pub exponent_of : List ℕ → Option ℤ
exponent_of text = if are_digits (unsigned text) && nat_le (number (unsigned text)) 9999 then Some (signed (is_negative text) (number (unsigned text))) else None

-- the exponent in a text: what its first `e` or `E` precedes, or 0 where it has none
abbrev pub exponent_in : List ℕ → Option ℤ
exponent_in text = if list_any is_mark text then exponent_of (after_first is_mark text) else Some (pos 0)

-- the seconds times ten to the power of a whole number
abbrev pub scaled : Seconds → ℤ → Seconds
scaled s (pos e) = record { numerator = s.numerator * 10 ^ e; denominator = s.denominator }
scaled s (negsuc e) = record { numerator = s.numerator; denominator = s.denominator * 10 ^ suc e }

-- the same, where both are spelled
abbrev pub scaled_if : Option Seconds → Option ℤ → Option Seconds
scaled_if (Some s) (Some e) = Some (scaled s e)
scaled_if s e = None

-- the seconds that a text without a sign spells
abbrev pub seconds_of : List ℕ → Option Seconds
seconds_of text = scaled_if (decimal_of (before_first is_mark text)) (exponent_in text)

-- so many seconds in femtoseconds, where they are at most a billion seconds and a whole number of femtoseconds
abbrev pub femtoseconds : Seconds → Result ℕ TimeFault
femtoseconds s =
    if nat_lt (10 ^ 9 * s.denominator) s.numerator then Err TooLarge else
    if (s.numerator * 10 ^ 15) % s.denominator == 0 then Ok (s.numerator * 10 ^ 15 / s.denominator) else Err TooFine

-- the same, where seconds are spelled
abbrev pub femtoseconds_if : Option Seconds → Result ℕ TimeFault
femtoseconds_if None = Err Bad
femtoseconds_if (Some s) = femtoseconds s

-- a time with a sign
abbrev pub with_sign : Bool → Result ℕ TimeFault → Result ℤ TimeFault
with_sign negative (Ok n) = Ok (signed negative n)
with_sign negative (Err fault) = Err fault

-- the time that a text spells in seconds, in femtoseconds
abbrev pub time_of : List ℕ → Result ℤ TimeFault
time_of text = with_sign (is_negative text) (femtoseconds_if (seconds_of (unsigned text)))
