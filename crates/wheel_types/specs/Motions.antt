-- Motions of an engine over a wheel: whole angles and whole times. Every list of moves, passes, events and instants has the last one first.
use Rattle.std.specs.Prelude.{List, ℤ}
use Rattle.wheel_types.specs.declared.instant.Instant.{Instant}
use Rattle.wheel_types.specs.declared.parts.WheelParts.{WheelParts}
pub use Rattle.wheel_types.specs.Indices.{Indices, index_of, passed, CamStands, Stands}
pub use Rattle.wheel_types.specs.Moves.{Move, indices_after, angle_after, CanMove, CanMake, NoneAfter, NoneAt, InTime}
pub use Rattle.wheel_types.specs.Speeds.{Pass, pass_if, crank_passes, KeepsSpeed, KeepsRatio, slots_between, time_between, AllKeepSpeed, AllKeepRatio}
pub use Rattle.wheel_types.specs.Events.{Event, event_if, events_at, events_of, events_passed, orders, Groups}

-- a motion begins at an angle with the next edges of a start, and makes moves
pub record Motion : Type 0 where
  pub angle : ℤ
  pub start : Indices
  pub moves : List Move

-- the motion begins where it stands, can make its moves, and makes them in time
pub record IsMotion (w : WheelParts) (e : Motion) : Type 0 where
  pub standing : Stands w e.angle e.start
  pub moves : CanMake w e.angle e.start e.moves
  pub times : InTime e.moves

-- the motion keeps the limits of speed
pub record IsPermitted (w : WheelParts) (e : Motion) : Type 0 where
  pub motion : IsMotion w e
  pub speed : AllKeepSpeed w (crank_passes e.start e.moves)
  pub ratio : AllKeepRatio w (crank_passes e.start e.moves)

-- the motion gives the instants
abbrev pub Gives : WheelParts → Motion → List Instant → Type 0
Gives w e past = Groups (events_passed w e.start e.moves) past
