-- The lines of a report that a certificate stands beside are the report of the instants.
use Rattle.std.proofs.Common.{◌≡◌, ◌∙◌, ap, refl, ℕ, ◌+◌, List, [], ◌∷◌, ◌++◌, reverse}
use Rattle.std.proofs.lemmas.List.{length-reverse}
use Rattle.std.specs.Prelude.{flat_map}
use Rattle.wheel_types.specs.declared.parts.WheelParts.{WheelParts}
use Rattle.wheel_types.specs.declared.instant.Instant.{Instant}
use Rattle.wheel_types.specs.declared.verdict.Verdict.{Verdict}
use Rattle.wheel_types.specs.Texts.{line_text, report_line_text, report_text}
use Rattle.pair_certificate.specs.declared.line.CertLine.{CertLine}
use Rattle.certificate_checker.specs.Exact.{AreExactLines}
use Rattle.wheel_types.proofs.ShapeTexts.{report_line_text-instant}
use Rattle.certificate_checker.specs.Reports.{reports_of}
use Rattle.certificate_checker.specs.Reports.{report_of as record_of}
use Rattle.certificate_checker.proofs.ExactExists.{exact_verdicts}
use Rattle.run_ends.specs.Stages.{lines_text}
use Rattle.certified_replay.specs.Certified.{fellows_of}
use Rattle.certified_replay.proofs.Fellows.{as_many, exact_counts, lines_of_report}
use Rattle.wheelsync.specs.Laws.{CertifiedLinesAreTheReport}
use Rattle.wheelsync.proofs.Sayings.{report_of}

-- the lines of records, and those of the instants that they are of
lines_of_records : (index : ℕ) (is : List Instant) (vs : List Verdict) → flat_map report_line_text (reports_of index is vs) ≡ report_text index is vs
lines_of_records index [] vs = refl
lines_of_records index (i ∷ is) [] = refl
lines_of_records index (i ∷ is) (v ∷ vs) =
    ap (λ t. t ++ flat_map report_line_text (reports_of (index + 1) is vs)) (report_line_text-instant (record_of index i v) i refl refl)
    ∙ ap (λ t. line_text index i v ++ t) (lines_of_records (index + 1) is vs)

lines_beside : (w : WheelParts) (is : List Instant) (vs : List Verdict) (cs : List CertLine) (window : List Instant) → AreExactLines w (reverse is) vs cs window
    → lines_text (fellows_of (reports_of 1 is (reverse vs)) (reverse cs)) ≡ report_text 1 is (reverse vs)
lines_beside w is vs cs window x =
    let n = exact_counts w (reverse is) vs cs window x in
    lines_of_report (reports_of 1 is (reverse vs)) (reverse cs) (as_many is vs cs (n.0 ∙ length-reverse is) (n.1 ∙ length-reverse is))
    ∙ lines_of_records 1 is (reverse vs)

pub certified_lines_are_the_report : CertifiedLinesAreTheReport
certified_lines_are_the_report w is all h =
    let o = h.own in
    let fellows : all ≡ fellows_of (reports_of 1 is (reverse o.verdicts)) (reverse o.lines) =
    h.fellows ∙ ap (λ r. fellows_of r h.certificate) o.records ∙ ap (fellows_of (reports_of 1 is (reverse o.verdicts))) o.certificate in
    report_of w is (lines_text all) o.verdicts o.window (exact_verdicts w (reverse is) o.verdicts o.lines o.window o.exact)
    (ap lines_text fellows ∙ lines_beside w is o.verdicts o.lines o.window o.exact)
