-- Laws of stimuli.
use Rattle.std.specs.Prelude.{◌≡◌, ◌≢◌, ℕ, ◌^◌, ◌<◌, ◌≤◌, List, reverse, All, ℤ, pos, ◌+ℤ◌, ◌-ℤ◌, ◌≤ℤ◌, ◌<ℤ◌}
use Rattle.wheel_types.specs.declared.channel.Channel.{Channel}
use Rattle.wheel_types.specs.declared.channel.Keep.TheVariants.{Both}
use Rattle.wheel_types.specs.declared.channel.Pol.{Pol}
use Rattle.wheel_types.specs.declared.channel.Pol.TheVariants.{Rise, Fall}
use Rattle.wheel_types.specs.declared.instant.Instant.{Instant}
use Rattle.wheel_types.specs.declared.verdict.Verdict.{Verdict}
use Rattle.wheel_types.specs.declared.verdict.Verdict.TheVariants.{Lost}
use Rattle.wheel_types.specs.declared.parts.WheelParts.{WheelParts}
use Rattle.wheel_types.specs.Edges.{edge_count, angle_of, keep_of, pol_of}
use Rattle.wheel_types.specs.Wheels.{IsWheel}
use Rattle.wheel_types.specs.Verdicts.{AreVerdicts, AreWithin}
use Rattle.stimulus_files.specs.FilesOf.{watch_of}
use Rattle.stimulus_files.specs.Written.{AreSmall, AreWritable}
use Rattle.stimulus.specs.Gaps.{crank_angle, HasTimes}
use Rattle.stimulus.specs.Cams.{cam_edge}
use Rattle.stimulus.specs.Drawn.{IsStimulus}

-- the first edge of a cam is the least at the first crank edge's angle or after it
abbrev pub FirstIsLeast : Type 0
FirstIsLeast = (w : WheelParts) (c : Channel) (seed : ℕ) → IsWheel w → 0 < edge_count w c
    → (crank_angle w seed 0 ≤ℤ angle_of w c (cam_edge w c seed 0))
    × (angle_of w c (cam_edge w c seed 0 -ℤ pos 1) <ℤ crank_angle w seed 0)

-- where each gap has a time, there is a stimulus
abbrev pub StimuliExist : Type 0
StimuliExist = (w : WheelParts) (seed gaps : ℕ)
    → IsWheel w → 1 ≤ gaps → HasTimes w seed gaps → (is : List Instant) × IsStimulus w seed gaps is

-- and only one
abbrev pub OneStimulus : Type 0
OneStimulus = (w : WheelParts) (seed gaps : ℕ) (is js : List Instant)
    → IsStimulus w seed gaps is → IsStimulus w seed gaps js → is ≡ js

-- no instant of it is lost, and every window is the first
abbrev pub NeverLost : Type 0
NeverLost = (w : WheelParts) (seed gaps : ℕ) (is : List Instant) (vs : List Verdict) (window : List Instant)
    → IsWheel w → IsStimulus w seed gaps is → AreVerdicts w (reverse is) vs window
    → All (λ (v : Verdict). v ≢ Lost) vs × (window ≡ reverse is)

-- the other polarity
abbrev pub other : Pol → Pol
other Rise = Fall
other Fall = Rise

-- where a channel keeps both polarities, its edges have them in turn, on through all cycles
abbrev pub PolaritiesAlternate : Type 0
PolaritiesAlternate = (w : WheelParts) (c : Channel) (m : ℤ)
    → keep_of w c ≡ Both → 0 < edge_count w c → pol_of w c (m +ℤ pos 1) ≡ other (pol_of w c m)

-- the files of a stimulus can be written: no time is past the greatest of a capture, changes come after time 0 and one after the other, and
-- the edges of each watched channel are kept ones in turn and apart
abbrev pub StimuliAreWritable : Type 0
StimuliAreWritable = (w : WheelParts) (seed gaps : ℕ) (is : List Instant)
    → IsWheel w → gaps ≤ 1000000 → HasTimes w seed gaps → IsStimulus w seed gaps is
    → AreWithin (10 ^ 24) is × AreSmall (watch_of w) is × AreWritable (watch_of w) is
