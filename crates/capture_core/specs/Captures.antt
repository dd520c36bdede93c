-- A capture: stamps with an end, and the instants at those that are closed.
use Rattle.std.specs.Prelude.{if◌then◌else◌, ℤ, int_lt, List, [], ◌∷◌, drop}
use Rattle.capture_core.specs.declared.capture.Capture.{Capture}
use Rattle.capture_core.specs.declared.capture.End.{End}
use Rattle.capture_core.specs.declared.capture.End.TheVariants.{Clean, Csv, Vcd}
use Rattle.capture_core.specs.declared.capture.Given.{Given}
use Rattle.capture_core.specs.declared.capture.Stamp.{Stamp}
use Rattle.capture_core.specs.declared.capture.Watch.{Watch}
use Rattle.capture_core.specs.Stamps.{nothing, over, instants_of}

-- stamps, the last one first, and how they end
pub record Told : Type 0 where
  pub stamps : List Stamp
  pub end : End

-- the stamps that are closed: all of them by a clean end, and all but the last at a fault
abbrev pub closed_stamps : End → List Stamp → List Stamp
closed_stamps Clean stamps = stamps
closed_stamps (Csv fault) stamps = drop 1 stamps
closed_stamps (Vcd fault) stamps = drop 1 stamps

-- the instants at closed stamps, and the end
abbrev pub capture_of : Watch → Told → Capture
capture_of watch told = record { instants = instants_of watch (closed_stamps told.end told.stamps); end = told.end }

-- the stamps, with an open one of this time: a new one, where it is greater than the last
abbrev pub at_time : ℤ → List Stamp → List Stamp
at_time time [] = record { time = time; given = nothing } ∷ []
at_time time (s ∷ closed) = if int_lt s.time time then record { time = time; given = nothing } ∷ s ∷ closed else s ∷ closed

-- the last stamp is given these levels too
abbrev pub with_given : Given → List Stamp → List Stamp
with_given given [] = []
with_given given (s ∷ closed) = record { time = s.time; given = over given s.given } ∷ closed
