-- The files of instants, and of those of a wheel.
use Rattle.std.specs.Prelude.{◌≡◌, ℕ, zero, suc, List, Option, Some, None}
use Rattle.wheel_types.specs.declared.channel.Keep.{Keep}
use Rattle.wheel_types.specs.declared.channel.Channel.TheVariants.{Cam1, Cam2}
use Rattle.wheel_types.specs.declared.parts.WheelParts.{WheelParts}
use Rattle.wheel_types.specs.declared.instant.Instant.{Instant}
use Rattle.wheel_types.specs.Edges.{edge_count}
use Rattle.capture_core.specs.declared.capture.Stamp.{Stamp}
use Rattle.capture_core.specs.declared.capture.Watch.{Watch}
use Rattle.stimulus_files.specs.Changes.{AreStamps}
use Rattle.stimulus_files.specs.Files.{csv_text, vcd_text}

-- the bytes are the CSV file of instants of these watched channels
abbrev pub IsCsvText : Watch → List Instant → List ℕ → Type 0
IsCsvText watch is bytes = (stamps : List Stamp) × (AreStamps watch is stamps × (bytes ≡ csv_text watch stamps))

-- the bytes are their value change dump
abbrev pub IsVcdText : Watch → List Instant → List ℕ → Type 0
IsVcdText watch is bytes = (stamps : List Stamp) × (AreStamps watch is stamps × (bytes ≡ vcd_text watch stamps))

-- which edges of a cam are kept, where it has any
abbrev pub keep_if : ℕ → Keep → Option Keep
keep_if zero keep = None
keep_if (suc n) keep = Some keep

-- the channels of a wheel that have a kept edge: the crank always, a cam where it has one
abbrev pub watch_of : WheelParts → Watch
watch_of w = record { crank = w.crank; cam1 = keep_if (edge_count w Cam1) w.cam1; cam2 = keep_if (edge_count w Cam2) w.cam2 }

-- the bytes are the CSV file of the instants of a wheel
abbrev pub IsCsvOf : WheelParts → List Instant → List ℕ → Type 0
IsCsvOf w is bytes = IsCsvText (watch_of w) is bytes

-- the bytes are the value change dump
abbrev pub IsVcdOf : WheelParts → List Instant → List ℕ → Type 0
IsVcdOf w is bytes = IsVcdText (watch_of w) is bytes
