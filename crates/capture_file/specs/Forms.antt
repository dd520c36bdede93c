-- The two forms of a capture's file.
use Rattle.std.specs.Prelude.{ℕ, Bool, false, ◌||◌, ◌==◌, if◌then◌else◌, List, [], ◌∷◌}
use Rattle.capture_core.specs.declared.capture.Names.{Names}
use Rattle.capture_core.specs.declared.capture.Watch.{Watch}
use Rattle.capture_core.specs.declared.capture.Capture.{Capture}
use Rattle.csv_capture.specs.Captures.{csv_capture}
use Rattle.vcd_reader.specs.Dumps.{vcd_capture}

-- white space is the space, tab, line feed and carriage return
abbrev pub is_white : ℕ → Bool
is_white b = (b == 32) || ((b == 9) || ((b == 10) || (b == 13)))

-- the first byte past white space is a dollar sign: a value change dump
abbrev pub is_dump : List ℕ → Bool
is_dump [] = false
is_dump (b ∷ bytes) = if is_white b then is_dump bytes else b == 36

-- the capture of a file in either form, by these names
abbrev pub file_capture : Names → Watch → List ℕ → Capture
file_capture names watch bytes = if is_dump bytes then vcd_capture names watch bytes else csv_capture names watch bytes
