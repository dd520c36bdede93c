-- Laws of places, of walks over them, and of the motion that a start place names.
use Rattle.std.specs.Prelude.{◌≡◌, List, reverse, ℤ, ◌↔◌}
use Rattle.wheel_types.specs.declared.channel.Channel.{Channel}
use Rattle.wheel_types.specs.declared.place.Place.{Place}
use Rattle.wheel_types.specs.declared.instant.Instant.{Instant}
use Rattle.wheel_types.specs.declared.parts.WheelParts.{WheelParts}
use Rattle.wheel_types.specs.Wheels.{IsWheel}
use Rattle.wheel_types.specs.Motions.{Motion, IsPermitted, Gives, indices_after}
use Rattle.wheel_types.specs.Verdicts.{Leads, IsRising, place_of}
use Rattle.wheel_types.specs.Steps.{indices_of}
use Rattle.wheel_types.specs.Named.{IsNamedMotion}
use Rattle.cam_ranges.specs.Places.{IsPlace}
use Rattle.cam_ranges.specs.Walks.{walk_of, AllStand, MakePasses, AreLeastAngles}

-- each wheel has a place
abbrev pub WheelsHavePlaces : Type 0
WheelsHavePlaces = (w : WheelParts) → IsWheel w → (p : Place) × IsPlace w p

-- what angles have to say of the walk from a place along these channels
pub record AnglesOfWalk (w : WheelParts) (start : Place) (channels : List Channel) : Type 0 where
  -- angles that make the passes exist exactly where every place of the walk stands
  pub exist : ((angles : List ℤ) × MakePasses w (indices_of start) channels angles) ↔ AllStand w (walk_of (indices_of start) channels)
  -- there is then a least angle of each place
  pub least : AllStand w (walk_of (indices_of start) channels) → (angles : List ℤ) × AreLeastAngles w (walk_of (indices_of start) channels) angles
  -- and the least angles make the passes
  pub least_pass : (angles : List ℤ) → AreLeastAngles w (walk_of (indices_of start) channels) angles → MakePasses w (indices_of start) channels angles

-- the angle law
abbrev pub AngleLaw : Type 0
AngleLaw = (w : WheelParts) (start : Place) (channels : List Channel) → IsWheel w → AnglesOfWalk w start channels

-- the motion that a start place names over the instants, which end at this place
pub record NamesOne (w : WheelParts) (past : List Instant) (from to : Place) : Type 0 where
  pub motion : Motion
  pub named : IsNamedMotion w past from motion
  pub permitted : IsPermitted w motion
  pub gives : Gives w motion past
  pub ends : place_of w (indices_after motion.start motion.moves) ≡ to
  pub one : (other : Motion) → IsNamedMotion w past from other → other ≡ motion

-- where a permitted motion from a place gives instants whose times rise, the place names one motion: it is permitted, gives
-- the same instants and ends at the same place
abbrev pub OneNamedMotion : Type 0
OneNamedMotion = (w : WheelParts) (is : List Instant) (from to : Place) → IsWheel w → IsRising is → Leads w (reverse is) from to → NamesOne w (reverse is) from to
