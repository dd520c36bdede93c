-- No time of a capture is larger than those of its stamps.
use Rattle.std.proofs.Common.{ℕ, ◌≤◌, ℤ, Bool, true, false, cond, List, [], ◌∷◌, drop, Option, Some, None, sym, subst}
use Rattle.std.specs.Prelude.{int_lt, unsigned_abs}
use Rattle.std.specs.List.{AllByRecursion}
use Rattle.std.proofs.lemmas.List.Elements.{All-from_recursion}
use Rattle.wheel_types.specs.declared.instant.Instant.{Instant}
use Rattle.wheel_types.specs.Verdicts as verdicts
use Rattle.capture_core.specs.declared.capture.End.{End}
use Rattle.capture_core.specs.declared.capture.End.TheVariants.{Clean, Csv, Vcd}
use Rattle.capture_core.specs.declared.capture.Given.{Given}
use Rattle.capture_core.specs.declared.capture.Stamp.{Stamp}
use Rattle.capture_core.specs.declared.capture.Watch.{Watch}
use Rattle.capture_core.specs.Captures.{Told, at_time, capture_of, closed_stamps, with_given}
use Rattle.capture_core.specs.Stamps.{instants_of, known_after, nothing, with_last}
use Rattle.capture_core.proofs.RisingInstants.{IsAt, instant_at-at}

-- no stamp's time is larger in size
abbrev pub AreBounded : ℕ → List Stamp → Type 0
AreBounded size stamps = AllByRecursion (λ (s : Stamp). unsigned_abs s.time ≤ size) stamps

-- a stamp of a time of that size
pub at_time-bounded : (size : ℕ) (time : ℤ) (stamps : List Stamp) → unsigned_abs time ≤ size → AreBounded size stamps → AreBounded size (at_time time stamps)
at_time-bounded size time [] t h = (t, tt)
at_time-bounded size time (s ∷ closed) t h = by (int_lt s.time time)
  where
    by : (b : Bool) → AreBounded size (cond b (record { time = time; given = nothing } ∷ s ∷ closed) (s ∷ closed))
    by true = (t, h)
    by false = h

-- levels change no time
pub with_given-bounded : (size : ℕ) (given : Given) (stamps : List Stamp) → AreBounded size stamps → AreBounded size (with_given given stamps)
with_given-bounded size given [] h = tt
with_given-bounded size given (s ∷ closed) h = h

-- all but the last stamp
drop-bounded : (size : ℕ) (stamps : List Stamp) → AreBounded size stamps → AreBounded size (drop 1 stamps)
drop-bounded size [] h = tt
drop-bounded size (s ∷ stamps) h = h.1

-- those that are closed
closed-bounded : (size : ℕ) (end : End) (stamps : List Stamp) → AreBounded size stamps → AreBounded size (closed_stamps end stamps)
closed-bounded size Clean stamps h = h
closed-bounded size (Csv fault) stamps h = drop-bounded size stamps h
closed-bounded size (Vcd fault) stamps h = drop-bounded size stamps h

-- no instant's time is larger in size
abbrev AreInstantsBounded : ℕ → List Instant → Type 0
AreInstantsBounded size is = AllByRecursion (λ (i : Instant). unsigned_abs i.time ≤ size) is

-- one more instant, at a time of that size
last-bounded : (size : ℕ) (t : ℤ) (is : List Instant) (o : Option Instant) → AreInstantsBounded size is → IsAt t o → unsigned_abs t ≤ size → AreInstantsBounded size (with_last is o)
last-bounded size t is None h at small = h
last-bounded size t [] (Some i) h at small = (subst (λ (u : ℤ). unsigned_abs u ≤ size) (sym at) small, tt)
last-bounded size t (j ∷ is) (Some i) h at small = (h.0, last-bounded size t is (Some i) h.1 at small)

-- the instants of stamps
instants-bounded : (size : ℕ) (watch : Watch) (stamps : List Stamp) → AreBounded size stamps → AreInstantsBounded size (instants_of watch stamps)
instants-bounded size watch [] h = tt
instants-bounded size watch (s ∷ past) h = last-bounded size s.time (instants_of watch past) _ (instants-bounded size watch past h.1) (instant_at-at watch (known_after past) s) h.0

-- the instants of a capture
pub capture-within : (size : ℕ) (watch : Watch) (told : Told) → AreBounded size told.stamps → verdicts.AreWithin size (capture_of watch told).instants
capture-within size watch told h =
    All-from_recursion (λ (i : Instant). unsigned_abs i.time ≤ size) _ (instants-bounded size watch (closed_stamps told.end told.stamps) (closed-bounded size told.end told.stamps h))
