-- The line of the exact certificate that one more instant adds.
use Rattle.std.proofs.Common.{◌≡◌, ◌+◌, List, ◌∷◌, length, reverse, sym, subst}
use Rattle.wheel_types.specs.declared.instant.Instant.{Instant}
use Rattle.wheel_types.specs.declared.verdict.Verdict.{Verdict}
use Rattle.wheel_types.specs.declared.verdict.Report.{Report}
use Rattle.wheel_types.specs.Verdicts.{IsVerdict, IsNextWindow, IsRising, AreVerdicts}
use Rattle.wheel_types.specs.Texts.{report_line_text}
use Rattle.plain_motion.proofs.DeterminedWindows.{window_determined}
use Rattle.image_layout.specs.Fields.{wheel_parts_of}
use Rattle.sound_walk.specs.Windows.{window_after}
use Rattle.pair_certificate.specs.declared.line.CertLine.{CertLine}
use Rattle.pair_certificate.specs.Certificates.{cert_line_text}
use Rattle.pair_certificate.specs.Reports.{IsReportInRange, IsCertLineInRange}
use Rattle.certificate_checker.specs.Exact.{IsExactLine, AreExactLines}
use Rattle.certificate_checker.specs.Reports.{report_of}
use Rattle.certificate_checker.proofs.ExactExists.{exact_verdicts}
use Rattle.replay_core.specs.declared.session.Session.{Session}
use Rattle.replay_core.specs.Sessions.{StandsFor, image_of}
use Rattle.replay_core.specs.Lines.{line_at}
use Rattle.replay_core.specs.Covers.{IsExactAt}
use Rattle.certified_replay.specs.declared.lines.Lines.{Lines}
use Rattle.certified_replay.specs.Walked.{wheel_of, HasWalked}
use Rattle.certified_replay.specs.Lines.{AddsLines}
use Rattle.certified_replay.proofs.Walked.{verdicts_walked, walked_next, said_verdict, said_number}

-- one more line, past exact ones, in the walk's window
one_more_line : (s : Session) (i : Instant) (past : List Instant) (vs : List Verdict) (cs : List CertLine) (v : Verdict) (c : CertLine) (before window : List Instant)
    → HasWalked s past vs → AreExactLines (wheel_of s) past vs cs before → AreVerdicts (wheel_of s) (i ∷ past) (v ∷ vs) window
    → IsExactLine (wheel_of s) (length past + 1) (i ∷ window_after (image_of s) past) v window c → AreExactLines (wheel_of s) (i ∷ past) (v ∷ vs) (c ∷ cs) window
one_more_line s i past vs cs v c before window walked x h line =
    let here = window_after (image_of s) past in
    let same : before ≡ here = window_determined (wheel_of s) past vs vs before here (exact_verdicts (wheel_of s) past vs cs before x) (verdicts_walked s past vs walked) in
    let next : h.0 ≡ here = window_determined (wheel_of s) past vs vs h.0 here h.1 (verdicts_walked s past vs walked) in (
      here,
      (
        subst (AreExactLines (wheel_of s) past vs cs) same x,
        (subst (λ g. IsVerdict (wheel_of s) (i ∷ g) v) next h.2, (subst (λ g. IsNextWindow (wheel_of s) i g v window) next h.3, line)),
      ),
    )

-- what the session took, and the two lines that were made of it
pub lines_added : (before after : Session) (i : Instant) (past : List Instant) (vs : List Verdict) (cs : List CertLine) (report : Report) (c : CertLine) (window : List Instant) (lines : Lines)
    → HasWalked before past vs → IsRising (reverse (i ∷ past)) → report ≡ line_at (image_of before) past i → StandsFor after (i ∷ past) → image_of after ≡ image_of before
    → AreExactLines (wheel_of before) past vs cs window → IsExactAt (image_of after) past i c
    → IsReportInRange (report_of report.index i report.verdict) → IsCertLineInRange c → lines.report.items ≡ report_line_text (report_of report.index i report.verdict) → lines.certificate.items ≡ cert_line_text c
    → lines.said ≡ report_of report.index i report.verdict → AddsLines (wheel_of before) after i past vs cs lines
lines_added before after i past vs cs report c window lines walked rising is stands same x exact range line_range text certificate said =
    let b = image_of before in
    let v = report.verdict in
    let number : report.index ≡ length past + 1 = said_number before past vs i report walked is in
    let next = walked_next before after past vs i report walked rising is stands same in
    let verdicts : AreVerdicts (wheel_of before) (i ∷ past) (v ∷ vs) (window_after b (i ∷ past))
    = subst (λ g. AreVerdicts (wheel_parts_of g) (i ∷ past) (v ∷ vs) (window_after g (i ∷ past))) same (verdicts_walked after (i ∷ past) (v ∷ vs) next) in
    let line : IsExactLine (wheel_of before) (length past + 1) (i ∷ window_after b past) v (window_after b (i ∷ past)) c
    = subst (λ u. IsExactLine (wheel_of before) (length past + 1) (i ∷ window_after b past) u (window_after b (i ∷ past)) c) (sym (said_verdict before past vs i report walked rising is))
    (subst (λ g. IsExactAt g past i c) same exact) in
    record {
      takes = record {
        verdict = v;
        line = c;
        window = window_after b (i ∷ past);
        walked = next;
        exact = one_more_line before i past vs cs v c window (window_after b (i ∷ past)) walked x verdicts line;
        report_range = subst (λ n. IsReportInRange (report_of n i v)) number range;
        line_range = line_range;
      };
      report_text = subst (λ n. lines.report.items ≡ report_line_text (report_of n i v)) number text;
      line_text = certificate;
      said = subst (λ n. lines.said ≡ report_of n i v) number said;
    }
