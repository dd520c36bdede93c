-- The bytes that a reader stands for.
use Rattle.std.specs.Prelude.{◌≡◌, ◌++◌, List, ℕ}
use Rattle.wheel_types.specs.declared.instant.Instant.{Instant}
use Rattle.capture_core.specs.declared.capture.Names.{Names}
use Rattle.capture_core.specs.declared.capture.Watch.{Watch}
use Rattle.capture_core.specs.Stamps.{instants_of}
use Rattle.vcd_reader.specs.declared.reader.Progress.TheVariants.{Open, Ended, Spent}
use Rattle.vcd_reader.specs.declared.reader.VcdReader.{VcdReader}
use Rattle.vcd_reader.specs.Dumps.{fault_of_file, whole}
use Rattle.vcd_header.specs.Signals.{wanted_by}
use Rattle.vcd_reader.specs.Streams as stream

-- how many bytes it has read: at most as many as were fed
abbrev pub bytes_read : VcdReader → ℕ
bytes_read r = r.stream.read

-- the closed instants that were not taken yet
abbrev pub waiting_in : VcdReader → List Instant
waiting_in r = r.stream.waiting

-- it has read the bytes as a stream that has not ended, and these instants were taken from it
pub record StandsFor (names : Names) (watch : Watch) (handed : List Instant) (r : VcdReader) (bytes : List ℕ) : Type 0 where
  pub progress : r.progress ≡ Open
  pub stream : stream.StandsFor (wanted_by names watch) watch handed r.stream bytes

-- it has read the bytes as a whole file, and these instants were taken from it
pub record StandsForFile (names : Names) (watch : Watch) (handed : List Instant) (r : VcdReader) (bytes : List ℕ) : Type 0 where
  pub progress : r.progress ≡ Ended (fault_of_file names watch bytes)
  pub instants : instants_of watch (whole (wanted_by names watch) bytes).closed ≡ handed ++ waiting_in r

-- memory ran out, and it stands for no bytes
abbrev pub IsSpent : VcdReader → Type 0
IsSpent r = r.progress ≡ Spent

-- the fact holds of all bytes of a stream that the reader stands for
abbrev pub ForStream : VcdReader → (Names → Watch → List Instant → List ℕ → Type 0) → Type 0
ForStream r P = (names : Names) (watch : Watch) (handed : List Instant) (bytes : List ℕ) → StandsFor names watch handed r bytes → P names watch handed bytes

-- the fact holds of all bytes of a whole file that the reader stands for
abbrev pub ForFile : VcdReader → (Names → Watch → List Instant → List ℕ → Type 0) → Type 0
ForFile r P = (names : Names) (watch : Watch) (handed : List Instant) (bytes : List ℕ) → StandsForFile names watch handed r bytes → P names watch handed bytes
