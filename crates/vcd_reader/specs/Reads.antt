-- What a reader's machine keeps of what tokens have brought.
use Rattle.std.specs.Prelude.{◌≡◌, ◌++◌, List, [], ℕ}
use Rattle.wheel_types.specs.declared.instant.Instant.{Instant}
use Rattle.capture_core.specs.declared.capture.Watch.{Watch}
use Rattle.vcd_header.specs.declared.header.HeaderState.{HeaderState}
use Rattle.vcd_header.specs.declared.signals.Signals.{Signals}
use Rattle.vcd_header.specs.Sightings.{SumsUp}
use Rattle.vcd_reader.specs.declared.changes.Changes.{Changes}
use Rattle.vcd_reader.specs.declared.stage.Stage.{Stage}
use Rattle.vcd_reader.specs.declared.stage.Stage.TheVariants.{Level, Inside, Past}
use Rattle.vcd_reader.specs.declared.machine.Machine.{Machine}
use Rattle.vcd_reader.specs.Readings.{Reading, between, inside}
use Rattle.vcd_reader.specs.Standing.{Brings, IsFresh}
use Rattle.vcd_header.specs.Words.{kept_words}

-- nothing has changed yet, and no instant was closed
pub record IsEarly (watch : Watch) (handed waiting : List Instant) (c : Changes) : Type 0 where
  pub none : handed ++ waiting ≡ []
  pub fresh : IsFresh watch c

-- a stage, with what is kept of the header and the words of the open section, is where tokens have led
abbrev pub ReadsAt : Signals → Watch → List Instant → List Instant → Stage → HeaderState → List (List ℕ) → Changes → Reading → Type 0
ReadsAt wanted watch handed waiting Level header words c (between h) = SumsUp wanted header h × IsEarly watch handed waiting c
ReadsAt wanted watch handed waiting (Inside section) header words c (inside h s due) =
    SumsUp wanted header h × (section ≡ s) × (words ≡ kept_words s due) × IsEarly watch handed waiting c
ReadsAt wanted watch handed waiting (Past phase) header words c r = Brings watch handed waiting phase c r
ReadsAt wanted watch handed waiting stage header words c r = ⊥

-- so is the machine
abbrev pub Reads : Watch → List Instant → List Instant → Machine → Reading → Type 0
Reads watch handed waiting m r = ReadsAt m.wanted watch handed waiting m.stage m.header m.words m.changes r

-- the fact holds wherever tokens have led, if the machine is there
abbrev pub ForReading : Machine → List Instant → (Watch → List Instant → Reading → Type 0) → Type 0
ForReading m waiting P = (watch : Watch) (handed : List Instant) (r : Reading) → Reads watch handed waiting m r → P watch handed r
