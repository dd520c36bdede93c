-- The law of a session's lines over a sound image.
use Rattle.std.specs.Prelude.{◌≡◌, ℕ, List, ◌∷◌, reverse}
use Rattle.wheel_types.specs.declared.instant.Instant.{Instant}
use Rattle.wheel_types.specs.Verdicts.{IsRising, IsVerdict}
use Rattle.image_layout.specs.Fields.{wheel_parts_of}
use Rattle.sound_walk.specs.Laws.{IsKnownSound}
use Rattle.sound_walk.specs.Windows.{window_after, verdict_at}
use Rattle.replay_core.specs.Lines.{line_at}

-- the line has the verdict of the walk, nothing of it cut down, which is that of the window's instants
pub record IsWholeLine (b : List ℕ) (past : List Instant) (i : Instant) : Type 0 where
  pub whole : (line_at b past i).verdict ≡ verdict_at b past i
  pub verdict : IsVerdict (wheel_parts_of b) (i ∷ window_after b past) (line_at b past i).verdict

-- so is each line over an image that is known to be sound
abbrev pub SoundLinesAreWhole : Type 0
SoundLinesAreWhole =
    (b : List ℕ) (past : List Instant) (i : Instant) → IsKnownSound b → IsRising (reverse (i ∷ past)) → IsWholeLine b past i
