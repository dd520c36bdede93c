-- What a session of a replay stands for.
use Rattle.std.specs.Prelude.{◌≡◌, List, reverse}
use Rattle.wheel_types.specs.declared.parts.WheelParts.{WheelParts}
use Rattle.wheel_types.specs.declared.instant.Instant.{Instant}
use Rattle.wheel_types.specs.declared.verdict.Verdict.{Verdict}
use Rattle.wheel_types.specs.Verdicts.{IsRising}
use Rattle.image_layout.specs.Fields.{wheel_parts_of}
use Rattle.sound_walk.specs.Laws.{IsKnownSound}
use Rattle.sound_walk.specs.Windows.{verdicts_of}
use Rattle.replay_core.specs.declared.session.Session.{Session}
use Rattle.replay_core.specs.Sessions.{StandsFor, image_of}

-- the wheel of the image that a session walks
abbrev pub wheel_of : Session → WheelParts
wheel_of s = wheel_parts_of (image_of s)

-- The session walks an image that is known to be sound, and stands for the instants, whose times rise; these are their verdicts. Lists of
-- instants and of verdicts have the last one first.
pub record HasWalked (s : Session) (past : List Instant) (verdicts : List Verdict) : Type 0 where
  pub known : IsKnownSound (image_of s)
  pub stands : StandsFor s past
  pub rising : IsRising (reverse past)
  pub are : verdicts ≡ verdicts_of (image_of s) past
