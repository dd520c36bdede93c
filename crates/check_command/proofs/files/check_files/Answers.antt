use Rattle.std.proofs.Common.{sym, List, Ok, Err}
use Rattle.std.proofs.lemmas.Result.{err_from_is_err_and}
use Rattle.command_words.specs.Options.{options_of}
use Rattle.shelf_io.proofs.Touching.{touches_after}
use Rattle.run_ends.proofs.Loading.{loads_before}
use Rattle.run_ends.proofs.Serving.{stops, goes_on}
use Rattle.wheel_types.specs.declared.verdict.Report.{Report}
use Rattle.pair_certificate.specs.declared.line.CertLine.{CertLine}
use Rattle.run_files.specs.Causes.{ReportGives, CertificateGives}
use Rattle.run_files.specs.Files.{HasReport, HasCertificate}
use Rattle.named_captures.specs.Captures.{HasCleanCapture, CleanGives}
use Rattle.check_command.proofs.files.check_files.Goals as goal

pub returns-in_err-model : goal.returns-in_err-model
returns-in_err-model g c =
    let p = err_from_is_err_and c.from_residual.result c.from_residual.ensures.1 in
    rw (p.1, p.2) (stops _ _ _ _ _ _ _ _ _ _ c.in_err-model.ensures.loads)

pub returns-in_err-capture : goal.returns-in_err-capture
returns-in_err-capture g c =
    let p = err_from_is_err_and c.from_residual-in_err-capture.result c.from_residual-in_err-capture.ensures.1 in
    let w = c.in_ok-model.model.wheel.parts in
    let o = options_of c.args.options in
    let first = c.in_ok-model.ensures.loads in
    rw (p.1, p.2)
    (goes_on _ _ _ _ _ _ _ _ w _ _ _ _ _ first.0 first.1
    (stops _ _ _ _ _ _ _ _ _ _
    (loads_before _ _ _ _ _ (λ file. CleanGives file c.args.capture.now w o) (λ file. HasCleanCapture file c.args.capture.now w o) (Err c.in_err-capture.field-0.0) first.0.touches c.in_err-capture.ensures.loads)))

pub returns-in_err-reports : goal.returns-in_err-reports
returns-in_err-reports g c =
    let p = err_from_is_err_and c.from_residual-in_err-reports.result c.from_residual-in_err-reports.ensures.1 in
    let v = g.S.Shelf.view c.args.shelf.now in
    let w = c.in_ok-model.model.wheel.parts in
    let o = options_of c.args.options in
    let first = c.in_ok-model.ensures.loads in
    let second = loads_before v _ _ _ _ (λ file. CleanGives file c.args.capture.now w o) (λ file. HasCleanCapture file c.args.capture.now w o) (Ok c.in_ok-capture.capture) first.0.touches c.in_ok-capture.ensures.loads in
    rw (p.1, p.2)
    (goes_on _ _ _ _ _ _ _ _ w _ _ _ _ _ first.0 first.1
    (goes_on _ _ _ _ _ _ _ _ c.in_ok-capture.capture _ _ _ _ _ second.0 second.1
    (stops _ _ _ _ _ _ _ _ _ _
    (loads_before {X = List Report} v _ _ _ _ (λ file. ReportGives file c.args.report.now) (λ file. HasReport file c.args.report.now) (Err c.in_err-reports.field-0.0)
    (touches_after _ _ _ _ _ _ _ first.0.touches second.0.touches) c.in_err-reports.ensures))))

pub returns-in_err-lines : goal.returns-in_err-lines
returns-in_err-lines g c =
    let p = err_from_is_err_and c.from_residual-in_err-lines.result c.from_residual-in_err-lines.ensures.1 in
    let v = g.S.Shelf.view c.args.shelf.now in
    let w = c.in_ok-model.model.wheel.parts in
    let o = options_of c.args.options in
    let first = c.in_ok-model.ensures.loads in
    let second = loads_before v _ _ _ _ (λ file. CleanGives file c.args.capture.now w o) (λ file. HasCleanCapture file c.args.capture.now w o) (Ok c.in_ok-capture.capture) first.0.touches c.in_ok-capture.ensures.loads in
    let both = touches_after _ _ _ _ _ _ _ first.0.touches second.0.touches in
    let third = loads_before v _ _ _ _ (λ file. ReportGives file c.args.report.now) (λ file reports. HasReport file c.args.report.now reports.items) (Ok c.in_ok-reports.reports) both c.in_ok-reports.ensures in
    rw (p.1, p.2)
    (goes_on _ _ _ _ _ _ _ _ w _ _ _ _ _ first.0 first.1
    (goes_on _ _ _ _ _ _ _ _ c.in_ok-capture.capture _ _ _ _ _ second.0 second.1
    (goes_on _ _ _ _ _ _ _ _ c.in_ok-reports.reports.items _ _ _ _ _ third.0 third.1
    (stops _ _ _ _ _ _ _ _ _ _
    (loads_before {X = List CertLine} v _ _ _ _ (λ file. CertificateGives file c.args.cert.now) (λ file. HasCertificate file c.args.cert.now) (Err c.in_err-lines.field-0.0)
    (touches_after _ _ _ _ _ _ _ first.0.touches (touches_after _ _ _ _ _ _ _ second.0.touches third.0.touches)) c.in_err-lines.ensures)))))

pub returns : goal.returns
returns g c =
    let v = g.S.Shelf.view c.args.shelf.now in
    let w = c.in_ok-model.model.wheel.parts in
    let o = options_of c.args.options in
    let first = c.in_ok-model.ensures.loads in
    let second = loads_before v _ _ _ _ (λ file. CleanGives file c.args.capture.now w o) (λ file. HasCleanCapture file c.args.capture.now w o) (Ok c.in_ok-capture.capture) first.0.touches c.in_ok-capture.ensures.loads in
    let both = touches_after _ _ _ _ _ _ _ first.0.touches second.0.touches in
    let third = loads_before v _ _ _ _ (λ file. ReportGives file c.args.report.now) (λ file reports. HasReport file c.args.report.now reports.items) (Ok c.in_ok-reports.reports) both c.in_ok-reports.ensures in
    let all = touches_after _ _ _ _ _ _ _ first.0.touches (touches_after _ _ _ _ _ _ _ second.0.touches third.0.touches) in
    let fourth = loads_before v _ _ _ _ (λ file. CertificateGives file c.args.cert.now) (λ file lines. HasCertificate file c.args.cert.now lines.items) (Ok c.in_ok-lines.lines) all c.in_ok-lines.ensures in
    goes_on _ _ _ _ _ _ _ _ w _ _ _ _ _ first.0 first.1
    (goes_on _ _ _ _ _ _ _ _ c.in_ok-capture.capture _ _ _ _ _ second.0 second.1
    (goes_on _ _ _ _ _ _ _ _ c.in_ok-reports.reports.items _ _ _ _ _ third.0 third.1
    (goes_on _ _ _ _ _ _ _ _ c.in_ok-lines.lines.items _ _ _ _ _ fourth.0 fourth.1
    (rw (sym c.deref.ensures.value, sym c.deref-2.ensures.value) (c.put_answer.ensures _)))))
