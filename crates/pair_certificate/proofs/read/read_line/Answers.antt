use Rattle.std.proofs.Common.{◌≡◌, sym, ◌∙◌, ap}
use Rattle.wheel_types.specs.Texts.{report_line_text}
use Rattle.pair_certificate.proofs.ReportsAgain.{line_again, same_record}
use Rattle.pair_certificate.proofs.ReadLines.{unequal}
use Rattle.pair_certificate.proofs.read.read_line.Goals as goal

pub returns-in_default : goal.returns-in_default
returns-in_default c = λ r is. c.in_default.not-Some r (line_again c.args.line.now r _ c.report_at.ensures.value is)

pub returns : goal.returns
returns c = λ r is.
    let same : c.in-Some.report ≡ r = same_record _ _ _ c.in-Some.is (line_again c.args.line.now r _ c.report_at.ensures.value is) in
    let text = c.as_slice.ensures.value ∙ c.in_ok-text.ensures ∙ ap report_line_text same ∙ sym is.text in
    unequal _ _ c.if-eq.ensures text
