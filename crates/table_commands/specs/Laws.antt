-- The sizes of a table are determined by the bytes of the wheel's file.
use Rattle.std.specs.Prelude.{◌≡◌, ℕ, List, Result}
use Rattle.wheel_types.specs.declared.parts.WheelParts.{WheelParts}
use Rattle.wheel_pattern.specs.WheelFile.{MeansWheel}
use Rattle.run_ends.specs.declared.cause.Cause.{Cause}
use Rattle.run_ends.specs.declared.cause.Done.{Done}
use Rattle.table_commands.specs.Size.{IsSized}

-- two lines of sizes of a file's bytes are one
abbrev pub OneSize : Type 0
OneSize = (bytes : List ℕ) (w v : WheelParts) (text other : List ℕ) (end last : Result Done Cause) → MeansWheel bytes w → MeansWheel bytes v
    → IsSized w text end → IsSized v other last → text ≡ other
