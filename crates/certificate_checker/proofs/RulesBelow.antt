-- The rules in order.
use Rattle.std.proofs.Common.{◌≡◌, ◌↔◌, false, Bool, IsTrue, sym, ◌∙◌, arith}
use Rattle.std.proofs.lemmas.Bool.{false≢true}
use Rattle.wheel_types.specs.declared.parts.WheelParts.{WheelParts}
use Rattle.certificate_checker.specs.declared.rule.Rule.{Rule}
use Rattle.certificate_checker.specs.declared.rule.Rule.TheVariants as rule
use Rattle.certificate_checker.specs.Numbers.{number_of}
use Rattle.certificate_checker.specs.Situations.{Situation}
use Rattle.certificate_checker.specs.Valid.{KeepsRules}
use Rattle.certificate_checker.specs.Answers.{Holds, BreaksFirst}
use Rattle.certificate_checker.specs.Checking.{KeepsBelow}

pub below_two : (w : WheelParts) (t : Situation) → KeepsBelow w t 2
below_two w t rule.Counts h = tt
below_two w t rule.ReportLine h = absurd (omega (arith, h))
below_two w t rule.CertLine h = absurd (omega (arith, h))
below_two w t rule.Cover h = absurd (omega (arith, h))
below_two w t rule.Steps h = absurd (omega (arith, h))
below_two w t rule.Position h = absurd (omega (arith, h))
below_two w t rule.Starts h = absurd (omega (arith, h))
below_two w t rule.LeastEnds h = absurd (omega (arith, h))
below_two w t rule.Loss h = absurd (omega (arith, h))

-- with one more rule
pub below_three : (w : WheelParts) (t : Situation) → KeepsBelow w t 2 → Holds w t rule.ReportLine → KeepsBelow w t 3
below_three w t all here rule.Counts h = all rule.Counts (omega arith)
below_three w t all here rule.ReportLine h = here
below_three w t all here rule.CertLine h = absurd (omega (arith, h))
below_three w t all here rule.Cover h = absurd (omega (arith, h))
below_three w t all here rule.Steps h = absurd (omega (arith, h))
below_three w t all here rule.Position h = absurd (omega (arith, h))
below_three w t all here rule.Starts h = absurd (omega (arith, h))
below_three w t all here rule.LeastEnds h = absurd (omega (arith, h))
below_three w t all here rule.Loss h = absurd (omega (arith, h))

pub below_four : (w : WheelParts) (t : Situation) → KeepsBelow w t 3 → Holds w t rule.CertLine → KeepsBelow w t 4
below_four w t all here rule.Counts h = all rule.Counts (omega arith)
below_four w t all here rule.ReportLine h = all rule.ReportLine (omega arith)
below_four w t all here rule.CertLine h = here
below_four w t all here rule.Cover h = absurd (omega (arith, h))
below_four w t all here rule.Steps h = absurd (omega (arith, h))
below_four w t all here rule.Position h = absurd (omega (arith, h))
below_four w t all here rule.Starts h = absurd (omega (arith, h))
below_four w t all here rule.LeastEnds h = absurd (omega (arith, h))
below_four w t all here rule.Loss h = absurd (omega (arith, h))

pub below_five : (w : WheelParts) (t : Situation) → KeepsBelow w t 4 → Holds w t rule.Cover → KeepsBelow w t 5
below_five w t all here rule.Counts h = all rule.Counts (omega arith)
below_five w t all here rule.ReportLine h = all rule.ReportLine (omega arith)
below_five w t all here rule.CertLine h = all rule.CertLine (omega arith)
below_five w t all here rule.Cover h = here
below_five w t all here rule.Steps h = absurd (omega (arith, h))
below_five w t all here rule.Position h = absurd (omega (arith, h))
below_five w t all here rule.Starts h = absurd (omega (arith, h))
below_five w t all here rule.LeastEnds h = absurd (omega (arith, h))
below_five w t all here rule.Loss h = absurd (omega (arith, h))

pub below_six : (w : WheelParts) (t : Situation) → KeepsBelow w t 5 → Holds w t rule.Steps → KeepsBelow w t 6
below_six w t all here rule.Counts h = all rule.Counts (omega arith)
below_six w t all here rule.ReportLine h = all rule.ReportLine (omega arith)
below_six w t all here rule.CertLine h = all rule.CertLine (omega arith)
below_six w t all here rule.Cover h = all rule.Cover (omega arith)
below_six w t all here rule.Steps h = here
below_six w t all here rule.Position h = absurd (omega (arith, h))
below_six w t all here rule.Starts h = absurd (omega (arith, h))
below_six w t all here rule.LeastEnds h = absurd (omega (arith, h))
below_six w t all here rule.Loss h = absurd (omega (arith, h))

pub below_seven : (w : WheelParts) (t : Situation) → KeepsBelow w t 6 → Holds w t rule.Position → KeepsBelow w t 7
below_seven w t all here rule.Counts h = all rule.Counts (omega arith)
below_seven w t all here rule.ReportLine h = all rule.ReportLine (omega arith)
below_seven w t all here rule.CertLine h = all rule.CertLine (omega arith)
below_seven w t all here rule.Cover h = all rule.Cover (omega arith)
below_seven w t all here rule.Steps h = all rule.Steps (omega arith)
below_seven w t all here rule.Position h = here
below_seven w t all here rule.Starts h = absurd (omega (arith, h))
below_seven w t all here rule.LeastEnds h = absurd (omega (arith, h))
below_seven w t all here rule.Loss h = absurd (omega (arith, h))

pub below_eight : (w : WheelParts) (t : Situation) → KeepsBelow w t 7 → Holds w t rule.Starts → KeepsBelow w t 8
below_eight w t all here rule.Counts h = all rule.Counts (omega arith)
below_eight w t all here rule.ReportLine h = all rule.ReportLine (omega arith)
below_eight w t all here rule.CertLine h = all rule.CertLine (omega arith)
below_eight w t all here rule.Cover h = all rule.Cover (omega arith)
below_eight w t all here rule.Steps h = all rule.Steps (omega arith)
below_eight w t all here rule.Position h = all rule.Position (omega arith)
below_eight w t all here rule.Starts h = here
below_eight w t all here rule.LeastEnds h = absurd (omega (arith, h))
below_eight w t all here rule.Loss h = absurd (omega (arith, h))

pub below_nine : (w : WheelParts) (t : Situation) → KeepsBelow w t 8 → Holds w t rule.LeastEnds → KeepsBelow w t 9
below_nine w t all here rule.Counts h = all rule.Counts (omega arith)
below_nine w t all here rule.ReportLine h = all rule.ReportLine (omega arith)
below_nine w t all here rule.CertLine h = all rule.CertLine (omega arith)
below_nine w t all here rule.Cover h = all rule.Cover (omega arith)
below_nine w t all here rule.Steps h = all rule.Steps (omega arith)
below_nine w t all here rule.Position h = all rule.Position (omega arith)
below_nine w t all here rule.Starts h = all rule.Starts (omega arith)
below_nine w t all here rule.LeastEnds h = here
below_nine w t all here rule.Loss h = absurd (omega (arith, h))

pub below_ten : (w : WheelParts) (t : Situation) → KeepsBelow w t 9 → Holds w t rule.Loss → KeepsBelow w t 10
below_ten w t all here rule.Counts h = all rule.Counts (omega arith)
below_ten w t all here rule.ReportLine h = all rule.ReportLine (omega arith)
below_ten w t all here rule.CertLine h = all rule.CertLine (omega arith)
below_ten w t all here rule.Cover h = all rule.Cover (omega arith)
below_ten w t all here rule.Steps h = all rule.Steps (omega arith)
below_ten w t all here rule.Position h = all rule.Position (omega arith)
below_ten w t all here rule.Starts h = all rule.Starts (omega arith)
below_ten w t all here rule.LeastEnds h = all rule.LeastEnds (omega arith)
below_ten w t all here rule.Loss h = here

-- all rules
pub keeps_all : (w : WheelParts) (t : Situation) → KeepsBelow w t 10 → KeepsRules w t
keeps_all w t all = record {
  report_line = all rule.ReportLine (omega arith);
  cert_line = all rule.CertLine (omega arith);
  cover = all rule.Cover (omega arith);
  steps = all rule.Steps (omega arith);
  position = all rule.Position (omega arith);
  starts = all rule.Starts (omega arith);
  least_ends = all rule.LeastEnds (omega arith);
  loss = all rule.Loss (omega arith);
}

-- a rule whose test says no is the first that is broken, where those before it hold
pub breaks : (w : WheelParts) (t : Situation) (r : Rule) (b : Bool) → b ≡ false → (IsTrue b ↔ Holds w t r) → KeepsBelow w t (number_of r) → BreaksFirst w t r
breaks w t r b e test all = record { broken = λ h. false≢true (sym e ∙ test.1 h); before = all }
