-- The set of places that a model begins with.
use Rattle.std.specs.Prelude.{◌≡◌, [], None}
use Rattle.wheel_types.specs.declared.parts.WheelParts.{WheelParts}
use Rattle.plain_motion.specs.declared.set.PlainSet.{PlainSet}
use Rattle.plain_motion.specs.Sets.{StandsFor, wheel_of, last_of}

-- the set stands, over this wheel, before the first instant
pub record IsFreshSet (w : WheelParts) (set : PlainSet) : Type 0 where
  pub wheel : wheel_of set ≡ w
  pub stands : StandsFor set [] []
  pub last : last_of set ≡ None
