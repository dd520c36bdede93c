-- The places where motions end that give a window's instants.
use Rattle.std.specs.Prelude.{◌≡◌, Bool, true, false, List, [], ◌∷◌, Contains}
use Rattle.wheel_types.specs.declared.place.Place.{Place}
use Rattle.wheel_types.specs.declared.instant.Instant.{Instant}
use Rattle.wheel_types.specs.declared.parts.WheelParts.{WheelParts}
use Rattle.wheel_types.specs.Verdicts.{EndsAt}
use Rattle.cam_ranges.specs.Gathered.{AreExactly}
use Rattle.plain_motion.specs.declared.window.Walk.{Walk}
use Rattle.plain_motion.specs.declared.window.Window.{Window}

-- these are, ascending, the places at which motions end that give the window's instants; none where it has no instant
abbrev pub AreEndsOf : WheelParts → List Instant → List Place → Type 0
AreEndsOf w [] ends = ends ≡ []
AreEndsOf w (i ∷ before) ends = AreExactly (EndsAt w (i ∷ before)) ends

-- some of the walks ends at the place
abbrev pub IsEndIn : List Walk → Place → Type 0
IsEndIn walks p = (a : Place) × Contains walks (record { start = a; end = p })

-- these are, ascending, the end places of the walks where a window has begun, and none where it has not
abbrev pub AreEndsBy : Bool → List Walk → List Place → Type 0
AreEndsBy false walks ends = ends ≡ []
AreEndsBy true walks ends = AreExactly (IsEndIn walks) ends

abbrev pub AreEndsIn : Window → List Place → Type 0
AreEndsIn s ends = AreEndsBy s.begun s.walks ends
