use Rattle.std.proofs.Common.{◌∙◌, ap, subst}
use Rattle.wheel_types.specs.Texts.{report_line_text}
use Rattle.pair_certificate.specs.Reports.{IsReportInRange}
use Rattle.certified_replay.proofs.ExactLines.{lines_added}
use Rattle.certified_replay.proofs.Walked.{before_next}
use Rattle.certified_replay.proofs.lines.both_lines.Goals as goal

pub step-index-requires-clause-later : goal.step-index-requires-clause-later
step-index-requires-clause-later c = before_next _ c.args.instant.now.time c.requires.later

pub returns-clause-adds : goal.returns-clause-adds
returns-clause-adds c = λ past verdicts certificate window walked rising x.
    let is = c.step-index.ensures.line past walked.stands in
    let stands = c.step-index.ensures.stands past walked.stands in
    lines_added c.args.session.now c.step-index.new.self c.args.instant.now past verdicts certificate c.step-index.result c.in_ok-line.line window _ walked rising is stands c.step-index.ensures.image x
    (c.in_ok-line.ensures.exact past c.args.instant.now stands rising)
    (subst IsReportInRange c.record_of-said.ensures.record c.record_of-said.ensures.range) c.in_ok-line.ensures.range
    (c.in_ok-report.ensures ∙ ap report_line_text c.record_of-said.ensures.record) c.in_ok-certificate.ensures c.record_of-said.ensures.record
