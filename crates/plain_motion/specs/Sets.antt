-- What a plain set stands for. Lists of instants and verdicts have the last one first.
use Rattle.std.specs.Prelude.{List, Option, ℤ}
use Rattle.wheel_types.specs.declared.place.Place.{Place}
use Rattle.wheel_types.specs.declared.instant.Instant.{Instant}
use Rattle.wheel_types.specs.declared.verdict.Verdict.{Verdict}
use Rattle.wheel_types.specs.declared.parts.WheelParts.{WheelParts}
use Rattle.plain_motion.specs.declared.set.PlainSet.{PlainSet}
use Rattle.plain_motion.specs.Ends.{AreAllPlaces}
use Rattle.plain_motion.specs.Memories.{Remembers}
use Rattle.plain_motion.specs.EndPlaces.{AreEndsOf}

-- the time of the last instant
abbrev pub last_of : PlainSet → Option ℤ
last_of s = s.last

-- the wheel whose instants it takes
abbrev pub wheel_of : PlainSet → WheelParts
wheel_of s = s.motions.wheel.parts

-- the end places of the window that the next instant comes into
abbrev pub end_places : PlainSet → List Place
end_places s = s.ends

-- the set has all places of its wheel, what it keeps is what these instants give, and these are their verdicts
pub record StandsFor (s : PlainSet) (past : List Instant) (verdicts : List Verdict) : Type 0 where
  pub places : AreAllPlaces s.motions.wheel.parts s.places
  pub kept : Remembers s.motions.wheel.parts s.window s.last past verdicts
  pub ends : AreEndsOf s.motions.wheel.parts kept.window s.ends
