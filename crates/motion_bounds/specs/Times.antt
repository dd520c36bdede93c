-- The times in which slots may pass.
use Rattle.std.specs.Prelude.{ℕ, ◌*◌, ◌/◌, ◌^◌, ◌-◌, ◌<◌, ◌≤◌, ◌↔◌, min}
use Rattle.std.specs.Int.{div_ceil}
use Rattle.wheel_types.specs.declared.parts.WheelParts.{WheelParts}
use Rattle.wheel_types.specs.Edges.{slot_count}
use Rattle.wheel_types.specs.Speeds.{KeepsSpeed}
use Rattle.wheel_types.specs.Wheels.{IsWheel}

-- femtoseconds of so many slots at the greatest speed, rounded up
abbrev pub least_of : WheelParts → ℕ → ℕ
least_of w s = div_ceil (s * w.degrees * 10 ^ 15) (w.rpm_high * 6 * slot_count w)

-- femtoseconds of so many slots at the least speed, rounded down
abbrev pub greatest_of : WheelParts → ℕ → ℕ
greatest_of w s = s * w.degrees * 10 ^ 15 / (w.rpm_low * 6 * slot_count w)

-- the limits on speed allow exactly the times from the least to the greatest, and none where the least is above the greatest
abbrev pub TimesAreBetween : Type 0
TimesAreBetween = (w : WheelParts) (s t : ℕ) → IsWheel w → 1 ≤ s → KeepsSpeed w s t ↔ ((least_of w s ≤ t) × (t ≤ greatest_of w s))

-- no limit on the time of a gap is as much as 2^64 - 1
abbrev pub LimitsFit : Type 0
LimitsFit = (w : WheelParts) (s : ℕ) → IsWheel w → s ≤ slot_count w → greatest_of w s < 2 ^ 64 - 1

-- so a time that is cut down to 2^64 - 1 is allowed exactly where the time is
abbrev pub CutTimesServe : Type 0
CutTimesServe = (w : WheelParts) (s t : ℕ) → IsWheel w → 1 ≤ s → s ≤ slot_count w → KeepsSpeed w s (min t (2 ^ 64 - 1)) ↔ KeepsSpeed w s t
