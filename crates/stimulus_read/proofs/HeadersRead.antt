-- The header of a value change dump of a stimulus reads as its signals, with femtoseconds for a unit.
use Rattle.std.proofs.Common.{ℕ, List, refl}
use Rattle.std.specs.Prelude.{codes, Option, Some, None}
use Rattle.wheel_types.specs.declared.channel.Keep.{Keep}
use Rattle.capture_core.specs.declared.capture.Watch.{Watch}
use Rattle.vcd_header.specs.declared.signals.Signals.{Signals}
use Rattle.vcd_reader.specs.Readings.{changes, first_body}
use Rattle.stimulus_files.specs.Files.{vcd_header}
use Rattle.stimulus_read.proofs.TokensRead.{Reads}

-- the names of the signals, and their codes
abbrev pub name_if : Option Keep → List ℕ → Option (List ℕ)
name_if None name = None
name_if (Some keep) name = Some name

abbrev pub names_of : Watch → Signals
names_of watch = record { crank = codes "crank"; cam1 = name_if watch.cam1 (codes "cam1"); cam2 = name_if watch.cam2 (codes "cam2") }

abbrev pub codes_of : Watch → Signals
codes_of watch = record { crank = codes "!"; cam1 = name_if watch.cam1 (codes "\""); cam2 = name_if watch.cam2 (codes "#") }

abbrev pub watch_with : Keep → Option Keep → Option Keep → Watch
watch_with crank cam1 cam2 = record { crank = crank; cam1 = cam1; cam2 = cam2 }

abbrev pub HeaderReads : Watch → Type 0
HeaderReads watch = Reads (names_of watch) (vcd_header watch) (changes (first_body 1 (codes_of watch)))

pub header_reads : (crank : Keep) (cam1 cam2 : Option Keep) → HeaderReads (watch_with crank cam1 cam2)
header_reads crank None None = record { reading = refl; at = 106; fresh = refl }
header_reads crank (Some a) None = record { reading = refl; at = 130; fresh = refl }
header_reads crank None (Some b) = record { reading = refl; at = 130; fresh = refl }
header_reads crank (Some a) (Some b) = record { reading = refl; at = 154; fresh = refl }
