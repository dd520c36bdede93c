-- The bytes that a stream stands for.
use Rattle.std.specs.Prelude.{◌≡◌, ◌≤◌, ◌++◌, Bool, if◌then◌else◌, length, take, List, ℕ, None, Result}
use Rattle.wheel_types.specs.declared.instant.Instant.{Instant}
use Rattle.capture_core.specs.declared.capture.Watch.{Watch}
use Rattle.capture_core.specs.Stamps.{instants_of}
use Rattle.vcd_header.specs.declared.signals.Signals.{Signals}
use Rattle.vcd_reader.specs.declared.fault.FeedFault.{FeedFault}
use Rattle.vcd_reader.specs.declared.stream.Stream.{Stream}
use Rattle.vcd_reader.specs.Answers.{Tells, UnlessMemory}
use Rattle.vcd_reader.specs.Dumps.{Outcome, closed_of, fault_of, reading_of, so_far}
use Rattle.vcd_reader.specs.Readings.{Reading}
use Rattle.vcd_reader.specs.Reads.{Reads}
use Rattle.vcd_reader.specs.Standing.{Waits}
use Rattle.vcd_reader.specs.Tokens.{last_open}

-- what a stream keeps of the open token, where there is no fault
pub record Follows (s : Stream) (bytes : List ℕ) : Type 0 where
  pub run : s.run ≡ last_open bytes
  pub count : s.read ≡ length bytes

-- the stream has read these bytes, and these instants were taken from it
pub record StandsFor (wanted : Signals) (watch : Watch) (handed : List Instant) (s : Stream) (bytes : List ℕ) : Type 0 where
  pub names : s.machine.wanted ≡ wanted
  pub tokens : Reads watch handed s.waiting s.machine (reading_of wanted bytes)
  pub sound : fault_of (reading_of wanted bytes) ≡ None → Follows s bytes

-- the fact holds of all bytes that the stream stands for
abbrev pub ForBytes : Stream → (Signals → Watch → List Instant → List ℕ → Type 0) → Type 0
ForBytes s P = (wanted : Signals) (watch : Watch) (handed : List Instant) (bytes : List ℕ) → StandsFor wanted watch handed s bytes → P wanted watch handed bytes

-- an answer tells the outcome's fault, and the outcome's instants were taken or wait
pub record Ends (watch : Watch) (handed waiting : List Instant) (result : Result Unit FeedFault) (o : Outcome) : Type 0 where
  pub tells : Tells result o.fault
  pub waits : UnlessMemory result (Waits watch handed waiting o.closed)

-- the instants that were taken or wait are those of the bytes up to some place in the last piece
pub record StopsWithin (wanted : Signals) (watch : Watch) (handed waiting : List Instant) (bytes piece : List ℕ) : Type 0 where
  pub count : ℕ
  pub within : count ≤ length piece
  pub instants : instants_of watch (so_far wanted (bytes ++ take count piece)).closed ≡ handed ++ waiting

-- the instants that were taken or wait are those before the last token, or those after it
pub record StopsAtEnd (watch : Watch) (handed waiting : List Instant) (before after : Reading) : Type 0 where
  pub early : Bool
  pub instants : instants_of watch (closed_of (if early then before else after)) ≡ handed ++ waiting
