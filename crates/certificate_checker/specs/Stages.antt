-- Where a checker stands between two instants.
use Rattle.std.specs.Prelude.{◌≡◌, ◌≢◌, ℕ, List, [], ◌∷◌, Option, Some, None, ⊤}
use Rattle.wheel_types.specs.declared.place.Place.{Place}
use Rattle.wheel_types.specs.declared.instant.Instant.{Instant}
use Rattle.wheel_types.specs.declared.verdict.Verdict.{Verdict}
use Rattle.wheel_types.specs.declared.verdict.Report.{Report}
use Rattle.wheel_types.specs.declared.parts.WheelParts.{WheelParts}
use Rattle.wheel_types.specs.Verdicts.{EndsAt, AllEarlier}
use Rattle.plain_motion.specs.declared.set.PlainSet.{PlainSet}
use Rattle.plain_motion.specs.Sets.{StandsFor, wheel_of}
use Rattle.pair_certificate.specs.declared.line.CertLine.{CertLine}
use Rattle.certificate_checker.specs.declared.rule.Rule.{Rule}
use Rattle.certificate_checker.specs.declared.rule.Answer.{Answer}
use Rattle.certificate_checker.specs.declared.rule.Answer.TheVariants.{Yes, No}
use Rattle.certificate_checker.specs.Numbers.{number_of}
use Rattle.certificate_checker.specs.Situations.{ComesFrom, window_after}
use Rattle.certificate_checker.specs.Valid.{KeepsRules, situation_of, IsValidFrom}
use Rattle.certificate_checker.specs.Answers.{BreaksFrom}

-- wherever motions end that give the window's instants, the engine can be by the cover
abbrev pub Covers : WheelParts → List Instant → List Place → Type 0
Covers w before reached = (p : Place) → EndsAt w before p → ComesFrom w before reached p

-- each of the instants, the last first, is after all those before it
abbrev pub AreRising : List Instant → Type 0
AreRising [] = ⊤
AreRising (i ∷ past) = AllEarlier i.time past × AreRising past

-- what is kept of the line before: nothing where the window has no instant, and else its cover
abbrev pub IsKept : Option (List Place) → List Instant → List Place → Type 0
IsKept None before reached = before ≡ []
IsKept (Some cover) before reached = (before ≢ []) × (cover ≡ reached)

-- a set of the wheel stands in this window, and the cover before has every end place of it
pub record StandsIn (w : WheelParts) (set : PlainSet) (kept : Option (List Place)) (before : List Instant) (reached : List Place)
    : Type 0 where
  pub wheel : wheel_of set ≡ w
  pub past : List Instant
  pub verdicts : List Verdict
  pub stands : StandsFor set past verdicts
  pub window : stands.kept.window ≡ before
  pub covers : Covers w before reached
  pub rises : AreRising before
  pub from : IsKept kept before reached

-- what is to be answered for the instants from this number on
abbrev pub IsAnswerFrom : WheelParts → ℕ → List Instant → List Place → List Instant → List Report → List CertLine → Answer
    → Type 0
IsAnswerFrom w n before reached is rs cs Yes = IsValidFrom w n before reached is rs cs
IsAnswerFrom w n before reached is rs cs (No at number) =
    (r : Rule) × ((number ≡ number_of r) × BreaksFrom w n before reached is rs cs at r)

-- the set has taken one more instant, which keeps the rules, and stands in the window that the next one comes into
pub record HasTaken (w : WheelParts) (set : PlainSet) (n : ℕ) (before : List Instant) (reached : List Place) (i : Instant) (r : Report)
    (c : CertLine) (kept : Option (List Place)) : Type 0 where
  pub rules : KeepsRules w (situation_of n before reached i r c)
  pub stands : StandsIn w set kept (window_after i before r.verdict c.cover) c.cover
