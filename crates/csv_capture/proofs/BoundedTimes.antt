-- No time of a capture is more than a billion seconds in size.
use Rattle.std.proofs.Common.{◌≡◌, ℕ, zero, suc, ◌+◌, ◌*◌, ◌/◌, ◌%◌, ◌^◌, ◌≤◌, ℤ, pos, neg_ℤ, Bool, true, false, cond, List, [], ◌∷◌, drop, Option, Some, None, Result, Ok, Err, refl, arith, nat_lt, ◌==◌}
use Rattle.std.specs.Prelude.{⊤, unsigned_abs}
use Rattle.std.proofs.lemmas.Int.{ints}
use Rattle.std.proofs.Math.Nat.{div-le_of_le-mul}
use Rattle.std.proofs.lemmas.Bool.Decides.{nat_tests}
use Rattle.wheel_types.specs.Verdicts as verdicts
use Rattle.capture_core.specs.declared.capture.CsvFault.{CsvFault}
use Rattle.capture_core.specs.declared.capture.CsvFault.TheVariants.{ShortRow, TimeFalls}
use Rattle.capture_core.specs.declared.capture.Given.{Given}
use Rattle.capture_core.specs.declared.capture.Names.{Names}
use Rattle.capture_core.specs.declared.capture.Stamp.{Stamp}
use Rattle.capture_core.specs.declared.capture.Watch.{Watch}
use Rattle.csv_capture.specs.declared.columns.Columns.{Columns}
use Rattle.csv_capture.specs.declared.time.TimeFault.{TimeFault}
use Rattle.csv_capture.specs.declared.time.TimeFault.TheVariants.{Bad, TooLarge, TooFine}
use Rattle.capture_core.specs.Captures.{at_time}
use Rattle.csv_capture.specs.Captures.{after_rows, csv_capture, header_of, rows_of, told_below, told_by, told_from, with_row}
use Rattle.csv_capture.specs.Fields.{field_text}
use Rattle.csv_capture.specs.Header.{columns_of}
use Rattle.csv_capture.specs.Rows.{falls, row_levels, row_stamp, row_time, stamp_of, is_whole}
use Rattle.capture_core.specs.Stamps.{last_time}
use Rattle.csv_capture.specs.Times.{Seconds, femtoseconds, femtoseconds_if, seconds_of, signed, time_of, with_sign, is_negative, unsigned}
use Rattle.csv_capture.proofs.Rising.{stamps-rise}
use Rattle.capture_core.proofs.Bounded.{AreBounded, at_time-bounded, capture-within, with_given-bounded}
use Rattle.capture_core.proofs.RisingInstants.{capture-rises}

-- a billion seconds in femtoseconds
abbrev IsSmall : ℤ → Type 0
IsSmall t = unsigned_abs t ≤ 10 ^ 24

-- the value of a result, where it is one, has the property
abbrev IfOk : {T E : Type 0} → (T → Type 0) → Result T E → Type 0
IfOk P (Ok x) = P x
IfOk P (Err e) = ⊤

quotient : (n p : ℕ) → n ≤ 10 ^ 9 * p → n * 10 ^ 15 / p ≤ 10 ^ 24
quotient n p h = div-le_of_le-mul p (let grown : n * 10 ^ 15 ≤ p * 10 ^ 24 = omega (arith, h) in grown)

fs_small : (s : Seconds) → IfOk (λ n. n ≤ 10 ^ 24) (femtoseconds s)
fs_small s = by (nat_lt (10 ^ 9 * s.denominator) s.numerator) refl
  where
    whole : (b : Bool) → s.numerator ≤ 10 ^ 9 * s.denominator → IfOk {T = ℕ} {E = TimeFault} (λ n. n ≤ 10 ^ 24) (cond b (Ok (s.numerator * 10 ^ 15 / s.denominator)) (Err TooFine))
    whole true h = quotient s.numerator s.denominator h
    whole false h = tt

    by : (b : Bool) → nat_lt (10 ^ 9 * s.denominator) s.numerator ≡ b
        → IfOk {T = ℕ} {E = TimeFault} (λ n. n ≤ 10 ^ 24) (cond b (Err TooLarge) (cond ((s.numerator * 10 ^ 15) % s.denominator == 0) (Ok (s.numerator * 10 ^ 15 / s.denominator)) (Err TooFine)))
    by true e = tt
    by false e = whole ((s.numerator * 10 ^ 15) % s.denominator == 0) (grind (arith, nat_tests))

abs_neg : (n : ℕ) → unsigned_abs (neg_ℤ (pos n)) ≡ n
abs_neg zero = refl
abs_neg (suc n) = omega (arith, ints)

signed_small : (negative : Bool) (n : ℕ) → n ≤ 10 ^ 24 → IsSmall (signed negative n)
signed_small true n h = rw (abs_neg n) h
signed_small false n h = h

with_sign_small : (negative : Bool) (r : Result ℕ TimeFault) → IfOk (λ n. n ≤ 10 ^ 24) r → IfOk IsSmall (with_sign negative r)
with_sign_small negative (Ok n) h = signed_small negative n h
with_sign_small negative (Err e) h = tt

fs_if_small : (o : Option Seconds) → IfOk (λ n. n ≤ 10 ^ 24) (femtoseconds_if o)
fs_if_small None = tt
fs_if_small (Some s) = fs_small s

time_small : (text : List ℕ) → IfOk IsSmall (time_of text)
time_small text = with_sign_small (is_negative text) (femtoseconds_if (seconds_of (unsigned text))) (fs_if_small (seconds_of (unsigned text)))

row_time_small : (number : ℕ) (before : Option ℤ) (r : Result ℤ TimeFault) → IfOk IsSmall r → IfOk IsSmall (row_time number before r)
row_time_small number before (Err Bad) h = tt
row_time_small number before (Err TooLarge) h = tt
row_time_small number before (Err TooFine) h = tt
row_time_small number before (Ok time) h = by (falls before time)
  where
    by : (b : Bool) → IfOk {T = ℤ} {E = CsvFault} IsSmall (cond b (Err (TimeFalls number)) (Ok time))
    by true = tt
    by false = h

stamp_small : (time : Result ℤ CsvFault) (given : Result Given CsvFault) → IfOk IsSmall time → IfOk (λ (s : Stamp). IsSmall s.time) (stamp_of time given)
stamp_small (Err e) given h = tt
stamp_small (Ok time) (Err e) h = tt
stamp_small (Ok time) (Ok given) h = h

row_stamp_small : (columns : Columns) (number : ℕ) (before : Option ℤ) (row : List (List ℕ)) → IfOk (λ (s : Stamp). IsSmall s.time) (row_stamp columns number before row)
row_stamp_small columns number before row = by (is_whole columns row)
  where
    time : Result ℤ CsvFault
    time = row_time number before (time_of (field_text row columns.time))

    by : (b : Bool) → IfOk {T = Stamp} {E = CsvFault} (λ (s : Stamp). IsSmall s.time) (cond b (stamp_of time (row_levels number columns row)) (Err (ShortRow number)))
    by true = stamp_small time (row_levels number columns row) (row_time_small number before _ (time_small (field_text row columns.time)))
    by false = tt

after_small : (columns : Columns) (number : ℕ) (stamps : List Stamp) (rows : List (List (List ℕ))) → AreBounded (10 ^ 24) stamps → AreBounded (10 ^ 24) (after_rows columns number stamps rows).stamps
after_small columns number stamps [] h = h
after_small columns number stamps (row ∷ rows) h =
    by (row_stamp columns number (last_time stamps) row) (row_stamp_small columns number (last_time stamps) row)
    (λ s t. after_small columns (number + 1) (with_row s stamps) rows (with_given-bounded (10 ^ 24) s.given (at_time s.time stamps) (at_time-bounded (10 ^ 24) s.time stamps t h)))
  where
    by : (r : Result Stamp CsvFault) → IfOk (λ (s : Stamp). IsSmall s.time) r → ((s : Stamp) → IsSmall s.time → AreBounded (10 ^ 24) (after_rows columns (number + 1) (with_row s stamps) rows).stamps)
        → AreBounded (10 ^ 24) (told_from stamps (λ s. after_rows columns (number + 1) (with_row s stamps) rows) r).stamps
    by (Ok s) t more = more s t
    by (Err fault) t more = h

below_small : (columns : Result Columns CsvFault) (rows : List (List (List ℕ))) → AreBounded (10 ^ 24) (told_below columns rows).stamps
below_small (Err fault) rows = tt
below_small (Ok columns) rows = after_small columns 2 [] rows tt

-- the times of a file's stamps are at most a billion seconds in size
stamps_small : (names : Names) (watch : Watch) (bytes : List ℕ) → AreBounded (10 ^ 24) (told_by names watch (rows_of bytes)).stamps
stamps_small names watch bytes = below_small (columns_of names watch (header_of (rows_of bytes))) (drop 1 (rows_of bytes))

-- the instants of a file in CSV have rising times
pub csv-rising : (names : Names) (watch : Watch) (bytes : List ℕ) → verdicts.IsRising (csv_capture names watch bytes).instants
csv-rising names watch bytes = capture-rises watch (told_by names watch (rows_of bytes)) (stamps-rise names watch bytes)

-- and none is more than a billion seconds in size
pub csv-within : (names : Names) (watch : Watch) (bytes : List ℕ) → verdicts.AreWithin (10 ^ 24) (csv_capture names watch bytes).instants
csv-within names watch bytes = capture-within (10 ^ 24) watch (told_by names watch (rows_of bytes)) (stamps_small names watch bytes)
