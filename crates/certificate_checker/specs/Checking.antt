-- What a checker keeps of a wheel, and what it finds of an instant.
use Rattle.std.specs.Prelude.{◌≡◌, ◌≢◌, ℕ, ◌<◌, ◌↔◌, List, [], Option, None, Contains}
use Rattle.wheel_types.specs.declared.verdict.Verdict.{Verdict}
use Rattle.wheel_types.specs.declared.verdict.Verdict.TheVariants.{Lost}
use Rattle.wheel_types.specs.declared.place.Place.{Place}
use Rattle.wheel_types.specs.declared.instant.Instant.{Instant}
use Rattle.wheel_types.specs.declared.parts.WheelParts.{WheelParts}
use Rattle.wheel_types.specs.Steps.{IsLegalStep}
use Rattle.wheel_types.specs.Verdicts.{IsLeast, IsVerdict, Leads}
use Rattle.edge_angles.specs.EdgeTables.{AreEdgesOf}
use Rattle.plain_motion.specs.Sets.{StandsFor, wheel_of, last_of}
use Rattle.certificate_checker.specs.declared.rule.Rule.{Rule}
use Rattle.certificate_checker.specs.declared.basis.Basis.{Basis}
use Rattle.certificate_checker.specs.Numbers.{number_of}
use Rattle.certificate_checker.specs.Situations.{Situation, ComesFrom, IsWalk}
use Rattle.certificate_checker.specs.Answers.{Holds}
use Rattle.plain_motion.specs.Ends.{IsOther}
use Rattle.cam_ranges.specs.Places.{IsPlace, IsAscending}

-- these are the places of the wheel
abbrev pub ArePlacesOf : WheelParts → List Place → Type 0
ArePlacesOf w places = (p : Place) → Contains places p ↔ IsPlace w p

-- q is a legal step, at an instant of a window, of one of these places
abbrev pub StepsTo : WheelParts → List Instant → List Place → Instant → Place → Type 0
StepsTo w window from i q = (p : Place) × (Contains from p × IsLegalStep w window p i q)

-- the cover holds every legal step of these places
abbrev pub HoldsAll : WheelParts → List Instant → List Place → Instant → List Place → Type 0
HoldsAll w window from i cover = (q : Place) → StepsTo w window from i q → Contains cover q

-- some of these places has a legal step
abbrev pub HasStep : WheelParts → List Instant → List Place → Instant → Type 0
HasStep w window from i = (q : Place) × StepsTo w window from i q

-- the place is the least of the cover, of those that are not at this position
abbrev pub IsLeastNotAt : List Place → Option ℕ → Place → Type 0
IsLeastNotAt cover but p = IsLeast (λ q. Contains cover q × IsOther but q.j) p

-- these are the places where the engine can be before the next instant
abbrev pub AreFrom : WheelParts → List Instant → List Place → List Place → Type 0
AreFrom w before reached from = (p : Place) → Contains from p ↔ ComesFrom w before reached p

-- the instant has this verdict after those of its window, and where it is not lost the set stands in a window of all these. Walks over
-- them are those of motions
pub record Tells (w : WheelParts) (since : List Instant) (v : Verdict) (window : List Instant) : Type 0 where
  pub verdict : IsVerdict w since v
  pub goes_on : v ≢ Lost → window ≡ since
  pub walks : (a e : Place) → IsWalk w since a e ↔ Leads w since a e

-- the rules with numbers below n hold at an instant
abbrev pub KeepsBelow : WheelParts → Situation → ℕ → Type 0
KeepsBelow w t n = (r : Rule) → number_of r < n → Holds w t r

-- what is kept of a wheel: its edges, its places, ascending, and a set of them before any instant
pub record IsBasisOf (w : WheelParts) (g : Basis) : Type 0 where
  pub edges : AreEdgesOf w g.edges
  pub places : ArePlacesOf w g.places
  pub ascend : IsAscending g.places
  pub wheel : wheel_of g.fresh ≡ w
  pub last : last_of g.fresh ≡ None
  pub stands : StandsFor g.fresh [] []
