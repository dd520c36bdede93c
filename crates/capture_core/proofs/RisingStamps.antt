-- The times of stamps rise, however stamps are told.
use Rattle.std.proofs.Common.{◌≡◌, ℤ, ◌<ℤ◌, Bool, true, false, cond, List, [], ◌∷◌, drop, refl, arith}
use Rattle.std.specs.Prelude.{int_lt}
use Rattle.std.proofs.lemmas.Int.{ints}
use Rattle.capture_core.specs.declared.capture.End.{End}
use Rattle.capture_core.specs.declared.capture.End.TheVariants.{Clean, Csv, Vcd}
use Rattle.capture_core.specs.declared.capture.Given.{Given}
use Rattle.capture_core.specs.declared.capture.Stamp.{Stamp}
use Rattle.capture_core.specs.Captures.{at_time, closed_stamps, with_given}
use Rattle.capture_core.specs.Stamps.{IsRising, nothing}

-- the test of the order decides it
later : (a b : ℤ) → int_lt a b ≡ true → a <ℤ b
later a b h = grind (arith, ints)

-- a stamp of this time, where it is greater than the last
pub at_time-rising : (time : ℤ) (stamps : List Stamp) → IsRising stamps → IsRising (at_time time stamps)
at_time-rising time [] h = tt
at_time-rising time (s ∷ closed) h = by (int_lt s.time time) refl
  where
    by : (b : Bool) → int_lt s.time time ≡ b → IsRising (cond b (record { time = time; given = nothing } ∷ s ∷ closed) (s ∷ closed))
    by true e = (later s.time time e, h)
    by false e = h

-- levels change no time
pub with_given-rising : (given : Given) (stamps : List Stamp) → IsRising stamps → IsRising (with_given given stamps)
with_given-rising given [] h = tt
with_given-rising given (s ∷ []) h = tt
with_given-rising given (s ∷ r ∷ past) h = h

-- all but the last stamp
drop_rising : (stamps : List Stamp) → IsRising stamps → IsRising (drop 1 stamps)
drop_rising [] h = tt
drop_rising (s ∷ []) h = tt
drop_rising (s ∷ r ∷ stamps) h = h.1

-- those that are closed are among them
pub closed_rising : (end : End) (stamps : List Stamp) → IsRising stamps → IsRising (closed_stamps end stamps)
closed_rising Clean stamps h = h
closed_rising (Csv fault) stamps h = drop_rising stamps h
closed_rising (Vcd fault) stamps h = drop_rising stamps h
