-- What the parts of a reader keep of what tokens have brought. `handed` are the instants that were taken.
use Rattle.std.specs.Prelude.{◌≡◌, List, [], ◌++◌, pos}
use Rattle.wheel_types.specs.declared.instant.Instant.{Instant}
use Rattle.capture_core.specs.declared.capture.Watch.{Watch}
use Rattle.capture_core.specs.declared.capture.Stamp.{Stamp}
use Rattle.capture_core.specs.Stamps.{nothing, instants_of}
use Rattle.capture_core.specs.LevelsOf.{StandsOpen, watched_by}
use Rattle.vcd_reader.specs.Readings.{Body, Reading, changes, wanting, skipping, refused}
use Rattle.vcd_reader.specs.declared.phase.Phase.{Phase}
use Rattle.vcd_reader.specs.declared.phase.Phase.TheVariants as phase
use Rattle.vcd_reader.specs.declared.changes.Changes.{Changes}

-- the instants at the stamps were taken or wait
pub record Waits (watch : Watch) (handed waiting : List Instant) (closed : List Stamp) : Type 0 where
  pub all : instants_of watch closed ≡ handed ++ waiting

-- the part of the changes
pub record Keeps (watch : Watch) (handed waiting : List Instant) (c : Changes) (b : Body) : Type 0 where
  pub scale : c.scale ≡ b.scale
  pub signals : c.signals ≡ b.signals
  pub time : pos c.time ≡ b.now.time
  pub levels : StandsOpen c.levels b.now b.closed
  pub watched : watched_by c.levels ≡ watch
  pub waits : Waits watch handed waiting b.closed

-- the part of the changes, before the header has ended
pub record IsFresh (watch : Watch) (c : Changes) : Type 0 where
  pub time : c.time ≡ 0
  pub levels : StandsOpen c.levels (record { time = pos 0; given = nothing }) []
  pub watched : watched_by c.levels ≡ watch

-- what a token of the changes brought
abbrev pub Brings : Watch → List Instant → List Instant → Phase → Changes → Reading → Type 0
Brings watch handed waiting phase.Between c (changes b) = Keeps watch handed waiting c b
Brings watch handed waiting (phase.Wanting level) c (wanting b due) = (level ≡ due) × Keeps watch handed waiting c b
Brings watch handed waiting phase.Skipping c (skipping b) = Keeps watch handed waiting c b
Brings watch handed waiting (phase.Refused fault) c (refused closed due) = (fault ≡ due) × Waits watch handed waiting closed
Brings watch handed waiting p c r = ⊥

-- whatever the changes were, the token brings what the reading says, and changes nothing that is kept
abbrev pub BringsOf : Phase → (Body → Reading) → Type 0
BringsOf p after = (watch : Watch) (handed waiting : List Instant) (c : Changes) (b : Body) → Keeps watch handed waiting c b → Brings watch handed waiting p c (after b)

-- the fact holds of all changes that are kept so, whatever was taken
abbrev pub ForBody : Changes → List Instant → (Watch → List Instant → Body → Type 0) → Type 0
ForBody c waiting P = (watch : Watch) (handed : List Instant) (b : Body) → Keeps watch handed waiting c b → P watch handed b
