-- An instant of a capture with its lines, and what the lines before it have come to. A window's instants have the last one first.
use Rattle.std.specs.Prelude.{◌≡◌, ℕ, List, [], ◌∷◌, Contains}
use Rattle.wheel_types.specs.declared.place.Place.{Place}
use Rattle.wheel_types.specs.declared.instant.Instant.{Instant}
use Rattle.wheel_types.specs.declared.parts.WheelParts.{WheelParts}
use Rattle.wheel_types.specs.declared.verdict.Verdict.{Verdict}
use Rattle.wheel_types.specs.declared.verdict.Verdict.TheVariants.{At, Open, Lost}
use Rattle.wheel_types.specs.declared.verdict.Report.{Report}
use Rattle.wheel_types.specs.Steps.{IsLegalStep}
use Rattle.cam_ranges.specs.Places.{IsPlace}
use Rattle.pair_certificate.specs.declared.line.CertLine.{CertLine}

-- an instant, its number, its lines, the earlier instants of its window, and the cover of the line before
pub record Situation : Type 0 where
  pub index : ℕ
  pub before : List Instant
  pub reached : List Place
  pub instant : Instant
  pub report : Report
  pub line : CertLine

-- where the engine can be before an instant of a window with these earlier instants: at any place of the wheel, where there are none,
-- and else at one that the cover before it has
abbrev pub ComesFrom : WheelParts → List Instant → List Place → Place → Type 0
ComesFrom w [] reached p = IsPlace w p
ComesFrom w (h ∷ before) reached p = Contains reached p

-- q is a legal step at the instant of a place where the engine can be
abbrev pub ComesTo : WheelParts → List Instant → List Place → Instant → Place → Type 0
ComesTo w before reached i q = (p : Place) × (ComesFrom w before reached p × IsLegalStep w before p i q)

-- q is a legal step, at the instant alone, of a place of the wheel
abbrev pub BeginsAt : WheelParts → Instant → Place → Type 0
BeginsAt w i q = (p : Place) × (IsPlace w p × IsLegalStep w [] p i q)

-- a walk from the place a over the window's instants, legal at each, that ends at e
abbrev pub IsWalk : WheelParts → List Instant → Place → Place → Type 0
IsWalk w [] a e = IsPlace w a × (e ≡ a)
IsWalk w (i ∷ past) a e = (p : Place) × (IsWalk w past a p × IsLegalStep w past p i e)

-- after an instant with this verdict and this cover, the next one comes into the window of these. A lost one begins it where it was
-- not the first of its own window and its cover has a place
abbrev pub window_after : Instant → List Instant → Verdict → List Place → List Instant
window_after i before (At j slot) cover = i ∷ before
window_after i before (Open a b) cover = i ∷ before
window_after i [] Lost cover = []
window_after i (h ∷ before) Lost [] = []
window_after i (h ∷ before) Lost (q ∷ cover) = i ∷ []
