-- The bytes of a wheel file determine what they mean.
use Rattle.std.specs.Prelude.{◌≡◌, ℕ, List}
use Rattle.wheel_types.specs.declared.parts.WheelParts.{WheelParts}
use Rattle.wheel_pattern.specs.declared.fault.PatternFault.{PatternFault}
use Rattle.wheel_pattern.specs.WheelFile.{MeansWheel, HasFault}

-- a file is a wheel file of one list of parts, or has one fault, and not both
pub record HaveOneMeaning : Type 0 where
  pub wheel : (bytes : List ℕ) (v w : WheelParts) → MeansWheel bytes v → MeansWheel bytes w → v ≡ w
  pub fault : (bytes : List ℕ) (e f : PatternFault) → HasFault bytes e → HasFault bytes f → e ≡ f
  pub apart : (bytes : List ℕ) (w : WheelParts) (f : PatternFault) → MeansWheel bytes w → ¬ HasFault bytes f
