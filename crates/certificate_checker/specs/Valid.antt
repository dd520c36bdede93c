-- Valid certificates: every rule, at every instant in order.
use Rattle.std.specs.Prelude.{ℕ, ◌+◌, List, [], ◌∷◌, ⊤}
use Rattle.wheel_types.specs.declared.place.Place.{Place}
use Rattle.wheel_types.specs.declared.instant.Instant.{Instant}
use Rattle.wheel_types.specs.declared.parts.WheelParts.{WheelParts}
use Rattle.wheel_types.specs.declared.verdict.Report.{Report}
use Rattle.pair_certificate.specs.declared.line.CertLine.{CertLine}
use Rattle.certificate_checker.specs.Situations.{Situation, window_after}
use Rattle.certificate_checker.specs.Rules.{HasReportLine, HasCertLine, HasCover, HoldsSteps, HoldsPosition}
use Rattle.certificate_checker.specs.Rules.{HoldsStarts, HoldsLeastEnds, HoldsLoss}

-- the rules at one instant
pub record KeepsRules (w : WheelParts) (t : Situation) : Type 0 where
  pub report_line : HasReportLine t.index t.instant t.report
  pub cert_line : HasCertLine t.index t.report t.line
  pub cover : HasCover w t.line.cover
  pub steps : HoldsSteps w t.before t.reached t.instant t.report.verdict t.line.cover
  pub position : HoldsPosition w t.report.verdict t.line.cover
  pub starts : HoldsStarts w (t.instant ∷ t.before) t.line.kind
  pub least_ends : HoldsLeastEnds w (t.instant ∷ t.before) t.report.verdict t.line.kind t.line.cover
  pub loss : HoldsLoss w t.instant t.before t.report.verdict t.line.cover

-- an instant with its lines
abbrev pub situation_of : ℕ → List Instant → List Place → Instant → Report → CertLine → Situation
situation_of index before reached i r c =
    record { index = index; before = before; reached = reached; instant = i; report = r; line = c }

-- the instants from this number on, which come into a window with earlier instants and a cover before them, keep the rules with their
-- lines, of which there are equally many
abbrev pub IsValidFrom : WheelParts → ℕ → List Instant → List Place → List Instant → List Report → List CertLine → Type 0
IsValidFrom w index before reached [] [] [] = ⊤
IsValidFrom w index before reached (i ∷ is) (r ∷ rs) (c ∷ cs) =
    KeepsRules w (situation_of index before reached i r c)
    × IsValidFrom w (index + 1) (window_after i before r.verdict c.cover) c.cover is rs cs
IsValidFrom w index before reached [] [] (c ∷ cs) = ⊥
IsValidFrom w index before reached [] (r ∷ rs) cs = ⊥
IsValidFrom w index before reached (i ∷ is) [] cs = ⊥
IsValidFrom w index before reached (i ∷ is) (r ∷ rs) [] = ⊥

-- the certificate is valid for the report of the instants
abbrev pub IsValid : WheelParts → List Instant → List Report → List CertLine → Type 0
IsValid w is report cert = IsValidFrom w 1 [] [] is report cert
