use Rattle.std.proofs.Common.{List, ℕ, take, drop, sym, ◌∙◌, subst}
use Rattle.wheel_types.specs.declared.verdict.Report.{Report}
use Rattle.pair_certificate.specs.Readings.{IsReportLine}
use Rattle.pair_certificate.proofs.Digits.{rest_whole}
use Rattle.pair_certificate.proofs.ReadLines.{HasRead, read_more, read_bad, found_none, found_some, bad_number}
use Rattle.pair_certificate.proofs.read.read_report.Goals as goal

pub returns-in_default-clause-bad : goal.returns-in_default-clause-bad
returns-in_default-clause-bad c = λ at e.
    let rest = c.loop-rest.rest.now in
    let line = take c.line_end-end.result rest in
    read_bad IsReportLine c.args.bytes.now rest line (drop c.line_end-end.result rest) c.loop-rest.reports.items at c.line_end-end.ensures.line c.loop-rest.invariant
    (found_none ((r : Report) → IsReportLine line r → ⊥) (λ r. IsReportLine line r) c.in_ok-report.field-0 c.in_default.is c.in_ok-report.ensures) (bad_number c.len.result _ at e (c.len.ensures ∙ c.loop-rest.reports.ok.0))

pub loop-rest-preserved : goal.loop-rest-preserved
loop-rest-preserved c =
    let rest = c.loop-rest.rest.now in
    let end = c.line_end-end.result in
    let line = take end rest in
    let is = found_some ((r : Report) → IsReportLine line r → ⊥) (λ r. IsReportLine line r) c.in_ok-report.field-0 c.in-Some.report c.in-Some.is c.in_ok-report.ensures in
    let more = read_more IsReportLine c.args.bytes.now rest line (drop end rest) c.loop-rest.reports.items c.in-Some.report c.line_end-end.ensures.line c.loop-rest.invariant is in
    subst (λ (l : List ℕ). HasRead IsReportLine c.args.bytes.now l c.push.new.self.items) (sym (rest_whole rest end))
    (subst (λ (v : List Report). HasRead IsReportLine c.args.bytes.now (drop end rest) v) (sym c.in_ok-push.ensures.items) more)
