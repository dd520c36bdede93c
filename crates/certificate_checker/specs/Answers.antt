-- The first rule that a certificate breaks.
use Rattle.std.specs.Prelude.{◌≡◌, ℕ, ◌+◌, ◌<◌, ◌≤◌, ◌⊎◌, List, [], ◌∷◌, length, ⊤}
use Rattle.wheel_types.specs.declared.place.Place.{Place}
use Rattle.wheel_types.specs.declared.instant.Instant.{Instant}
use Rattle.wheel_types.specs.declared.parts.WheelParts.{WheelParts}
use Rattle.wheel_types.specs.declared.verdict.Report.{Report}
use Rattle.pair_certificate.specs.declared.line.CertLine.{CertLine}
use Rattle.certificate_checker.specs.declared.rule.Rule.{Rule}
use Rattle.certificate_checker.specs.declared.rule.Rule.TheVariants as rule
use Rattle.certificate_checker.specs.declared.rule.Answer.{Answer}
use Rattle.certificate_checker.specs.declared.rule.Answer.TheVariants.{Yes, No}
use Rattle.certificate_checker.specs.Numbers.{number_of}
use Rattle.certificate_checker.specs.Situations.{Situation, window_after}
use Rattle.certificate_checker.specs.Rules.{HasReportLine, HasCertLine, HasCover, HoldsSteps, HoldsPosition}
use Rattle.certificate_checker.specs.Rules.{HoldsStarts, HoldsLeastEnds, HoldsLoss}
use Rattle.certificate_checker.specs.Valid.{KeepsRules, situation_of, IsValid}

-- the rule holds at an instant
abbrev pub Holds : WheelParts → Situation → Rule → Type 0
Holds w t rule.Counts = ⊤
Holds w t rule.ReportLine = HasReportLine t.index t.instant t.report
Holds w t rule.CertLine = HasCertLine t.index t.report t.line
Holds w t rule.Cover = HasCover w t.line.cover
Holds w t rule.Steps = HoldsSteps w t.before t.reached t.instant t.report.verdict t.line.cover
Holds w t rule.Position = HoldsPosition w t.report.verdict t.line.cover
Holds w t rule.Starts = HoldsStarts w (t.instant ∷ t.before) t.line.kind
Holds w t rule.LeastEnds = HoldsLeastEnds w (t.instant ∷ t.before) t.report.verdict t.line.kind t.line.cover
Holds w t rule.Loss = HoldsLoss w t.instant t.before t.report.verdict t.line.cover

-- the rule is the first that does not hold at an instant
pub record BreaksFirst (w : WheelParts) (t : Situation) (r : Rule) : Type 0 where
  pub broken : ¬ Holds w t r
  pub before : (s : Rule) → number_of s < number_of r → Holds w t s

-- of the instants from this number on, this one is the first with a broken rule, and this rule is its first
abbrev pub BreaksFrom : WheelParts → ℕ → List Instant → List Place → List Instant → List Report → List CertLine → ℕ → Rule
    → Type 0
BreaksFrom w index before reached (i ∷ is) (r ∷ rs) (c ∷ cs) at broken =
    ((at ≡ index) × BreaksFirst w (situation_of index before reached i r c) broken)
    ⊎ (KeepsRules w (situation_of index before reached i r c)
    × BreaksFrom w (index + 1) (window_after i before r.verdict c.cover) c.cover is rs cs at broken)
BreaksFrom w index before reached [] rs cs at broken = ⊥
BreaksFrom w index before reached (i ∷ is) [] cs at broken = ⊥
BreaksFrom w index before reached (i ∷ is) (r ∷ rs) [] at broken = ⊥

-- there are equally many entries
abbrev pub AreAsMany : List Instant → List Report → List CertLine → Type 0
AreAsMany is report cert = (length report ≡ length is) × (length cert ≡ length is)

-- the least of the three counts
pub record IsLeastCount (is : List Instant) (report : List Report) (cert : List CertLine) (n : ℕ) : Type 0 where
  pub within : n ≤ length is
  pub within_report : n ≤ length report
  pub within_cert : n ≤ length cert
  pub one : (n ≡ length is) ⊎ ((n ≡ length report) ⊎ (n ≡ length cert))

-- this instant is the first with a broken rule, and this rule is its first. Where there are not equally many entries, no other rule is
-- tested, and the instant is the first that one of the three does not have
abbrev pub IsFirstBroken : WheelParts → List Instant → List Report → List CertLine → ℕ → Rule → Type 0
IsFirstBroken w is report cert at broken =
    ((¬ AreAsMany is report cert) × ((broken ≡ rule.Counts) × ((n : ℕ) × (IsLeastCount is report cert n × (at ≡ n + 1)))))
    ⊎ (AreAsMany is report cert × BreaksFrom w 1 [] [] is report cert at broken)

-- what a check is to answer
abbrev pub IsAnswer : WheelParts → List Instant → List Report → List CertLine → Answer → Type 0
IsAnswer w is report cert Yes = IsValid w is report cert
IsAnswer w is report cert (No at number) = (r : Rule) × ((number ≡ number_of r) × IsFirstBroken w is report cert at r)
