use Rattle.std.proofs.Common.{◌∙◌, sym, ap}
use Rattle.pair_certificate.specs.Certificates.{cert_line_text}
use Rattle.pair_certificate.specs.FirstCertificates.{IsOnlyCover, IsNoCover}
use Rattle.pair_certificate.proofs.CertAgain.{no_head, no_cover, line_value}
use Rattle.pair_certificate.proofs.ReadLines.{unequal, found_none, found_some}
use Rattle.pair_certificate.proofs.cert_read.read_line.Goals as goal

pub returns-in_default : goal.returns-in_default
returns-in_default c = no_head c.args.line.now (sym c.in_default.ensures.value)

pub returns-in_default-2 : goal.returns-in_default-2
returns-in_default-2 c =
    let rest = c.in-Some.rest.now in
    no_cover c.args.line.now rest c.in-Some.index c.in-Some.kind (sym c.in-Some.ensures.value) (found_none (IsNoCover rest) (IsOnlyCover rest) c.in_ok-cover.field-0 c.in_default-2.is c.in_ok-cover.ensures)

pub returns-else-eq : goal.returns-else-eq
returns-else-eq c = λ d is.
    let rest = c.in-Some.rest.now in
    let only = found_some (IsNoCover rest) (IsOnlyCover rest) c.in_ok-cover.field-0 c.in-Some-2.cover c.in-Some-2.is c.in_ok-cover.ensures in
    let same = line_value c.args.line.now rest c.in-Some.index c.in-Some.kind c.in-Some-2.cover (sym c.in-Some.ensures.value) only d is in
    unequal _ _ c.if-eq.ensures (c.as_slice.ensures.value ∙ c.in_ok-text.ensures ∙ ap cert_line_text same ∙ sym is.text)
