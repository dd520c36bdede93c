-- A check over accepted files and a steady shelf is answered, or wants memory, or a write fails.
use Rattle.std.proofs.Common.{◌≡◌, ℕ, ◌⊎◌, inl, inr, List, Result, Ok, Err, refl, sym, ◌∙◌, ap}
use Rattle.std.specs.Prelude.{IsTrue}
use Rattle.shelf_traits.specs.Shelf.{View}
use Rattle.wheel_types.specs.declared.parts.WheelParts.{WheelParts}
use Rattle.wheel_types.specs.declared.verdict.Report.{Report}
use Rattle.capture_core.specs.declared.capture.Capture.{Capture}
use Rattle.pair_certificate.specs.declared.line.CertLine.{CertLine}
use Rattle.certificate_checker.specs.declared.rule.Answer.{Answer}
use Rattle.certificate_checker.specs.declared.rule.Answer.TheVariants.{Yes, No}
use Rattle.certificate_checker.specs.Answers.{IsAnswer}
use Rattle.certificate_checker.specs.Valid.{IsValid}
use Rattle.certificate_checker.proofs.OneAnswer.{answer_yes}
use Rattle.command_words.specs.Options.{Options}
use Rattle.run_ends.specs.declared.cause.Cause.{Cause}
use Rattle.run_ends.specs.declared.cause.Cause.TheVariants as cause
use Rattle.run_ends.specs.declared.cause.Done.{Done}
use Rattle.run_ends.specs.declared.cause.Done.TheVariants as done
use Rattle.run_ends.specs.Works.{Work, Reads, Writes, StopsWrite}
use Rattle.run_ends.proofs.Completing.{writes_end, reads_ready, reads_not_usage, writes_not_usage}
use Rattle.run_ends.proofs.Serving.{IsCalm}
use Rattle.run_files.specs.Causes.{ModelGives, ReportGives, CertificateGives}
use Rattle.run_files.specs.Files.{HasPlacedWheel, HasReport, HasCertificate}
use Rattle.named_captures.specs.Captures.{HasCleanCapture, CleanGives}
use Rattle.run_files.proofs.Ready.{model_gives_none, report_gives_none, certificate_gives_none, file_has_one_wheel, file_has_one_report, file_has_one_certificate}
use Rattle.named_captures.proofs.FileNames.{clean_gives_none, file_has_one_capture}
use Rattle.check_command.specs.Check.{IsAnswered, IsCheck, ended_with}
use Rattle.check_command.specs.Checked.{AreChecked}

-- the work is done so, or wanted memory, or a write failed
abbrev pub EndsIn : Done → Result Done Cause → Type 0
EndsIn x end = (end ≡ Ok x) ⊎ ((end ≡ Err cause.Memory) ⊎ (end ≡ Err cause.WriteFault))

stop_ends : (x : Done) (e : Cause) → StopsWrite e → EndsIn x (Err e)
stop_ends x cause.WriteFault s = inr (inr refl)
stop_ends x cause.Memory s = inr (inl refl)
stop_ends x cause.Usage s = absurd s
stop_ends x cause.ReadFault s = absurd s
stop_ends x (cause.Refused r) s = absurd s
stop_ends x (cause.Limit l) s = absurd s

-- whatever is to be answered, the check ends so
abbrev pub AnswersEnd : WheelParts → Capture → List Report → List CertLine → Done → Type 0
AnswersEnd w c rs cs x = (a : Answer) → IsAnswer w c.instants rs cs a → ended_with a ≡ Ok x

by_cert : (x : Done) (v : View) (cert : List ℕ) (w : WheelParts) (c : Capture) (rs : List Report) (cs : List CertLine) (work : Work) → IsTrue v.tells → IsTrue v.steady → HasCertificate v.file cert cs → AnswersEnd w c rs cs x
    → Reads v cert (CertificateGives v.file cert) (HasCertificate v.file cert) (λ (cs : List CertLine). Writes (IsAnswered w c rs cs)) work → EndsIn x work.end
by_cert x v cert w c rs cs work told steady h ends r =
    reads_ready v cert (CertificateGives v.file cert) (HasCertificate v.file cert) (λ (cs : List CertLine). Writes (IsAnswered w c rs cs)) (EndsIn x) h.bytes cs work told steady h.holds.there
    (certificate_gives_none v.file cert cs h) (λ other k. file_has_one_certificate v.file cert other cs k h) (inr (inl refl))
    (λ rest n. writes_end (IsAnswered w c rs cs) (EndsIn x) rest (λ text end d. inl (d.1.1.1 ∙ ends d.0 d.1.0)) (stop_ends x) n) r

by_report : (x : Done) (v : View) (report cert : List ℕ) (w : WheelParts) (c : Capture) (rs : List Report) (cs : List CertLine) (work : Work) → IsTrue v.tells → IsTrue v.steady → HasReport v.file report rs → HasCertificate v.file cert cs
    → AnswersEnd w c rs cs x
    → Reads v report (ReportGives v.file report) (HasReport v.file report)
    (λ (rs : List Report). Reads v cert (CertificateGives v.file cert) (HasCertificate v.file cert) (λ (cs : List CertLine). Writes (IsAnswered w c rs cs))) work → EndsIn x work.end
by_report x v report cert w c rs cs work told steady h k ends r =
    reads_ready v report (ReportGives v.file report) (HasReport v.file report)
    (λ (rs : List Report). Reads v cert (CertificateGives v.file cert) (HasCertificate v.file cert) (λ (cs : List CertLine). Writes (IsAnswered w c rs cs))) (EndsIn x) h.bytes rs work told steady h.holds.there
    (report_gives_none v.file report rs h) (λ other m. file_has_one_report v.file report other rs m h) (inr (inl refl))
    (λ rest n. by_cert x v cert w c rs cs rest told steady k ends n) r

by_capture : (x : Done) (v : View) (capture report cert : List ℕ) (o : Options) (w : WheelParts) (c : Capture) (rs : List Report) (cs : List CertLine) (work : Work) → IsTrue v.tells → IsTrue v.steady
    → HasCleanCapture v.file capture w o c → HasReport v.file report rs → HasCertificate v.file cert cs → AnswersEnd w c rs cs x
    → Reads v capture (CleanGives v.file capture w o) (HasCleanCapture v.file capture w o)
    (λ c. Reads v report (ReportGives v.file report) (HasReport v.file report)
    (λ (rs : List Report). Reads v cert (CertificateGives v.file cert) (HasCertificate v.file cert) (λ (cs : List CertLine). Writes (IsAnswered w c rs cs)))) work → EndsIn x work.end
by_capture x v capture report cert o w c rs cs work told steady h k l ends r =
    reads_ready v capture (CleanGives v.file capture w o) (HasCleanCapture v.file capture w o)
    (λ c. Reads v report (ReportGives v.file report) (HasReport v.file report)
    (λ (rs : List Report). Reads v cert (CertificateGives v.file cert) (HasCertificate v.file cert) (λ (cs : List CertLine). Writes (IsAnswered w c rs cs)))) (EndsIn x) h.read.bytes c work told steady h.read.holds.there
    (clean_gives_none v.file capture w o c h) (λ d m. file_has_one_capture v.file capture w o d c m.read h.read) (inr (inl refl))
    (λ rest n. by_report x v report cert w c rs cs rest told steady k l ends n) r

-- over accepted files a check ends as its answer says
pub check_ends : (x : Done) (v : View) (wheel capture report cert : List ℕ) (o : Options) (w : WheelParts) (c : Capture) (rs : List Report) (cs : List CertLine) (work : Work) → IsTrue v.tells → IsTrue v.steady
    → AreChecked v.file wheel capture report cert o w c rs cs → AnswersEnd w c rs cs x → IsCheck v wheel capture report cert o work → EndsIn x work.end
check_ends x v wheel capture report cert o w c rs cs work told steady h ends r =
    reads_ready v wheel (ModelGives v.file wheel) (HasPlacedWheel v.file wheel)
    (λ w. Reads v capture (CleanGives v.file capture w o) (HasCleanCapture v.file capture w o)
    (λ c. Reads v report (ReportGives v.file report) (HasReport v.file report)
    (λ (rs : List Report). Reads v cert (CertificateGives v.file cert) (HasCertificate v.file cert) (λ (cs : List CertLine). Writes (IsAnswered w c rs cs))))) (EndsIn x)
    h.wheel_file.wheel.bytes w work told steady h.wheel_file.wheel.holds.there (model_gives_none v.file wheel w h.wheel_file) (λ u k. file_has_one_wheel v.file wheel u w k.wheel h.wheel_file.wheel) (inr (inl refl))
    (λ rest n. by_capture x v capture report cert o w c rs cs rest told steady h.capture_file h.report_file h.cert_file ends n) r

-- a valid certificate is answered with yes, and one that is not valid with no
pub valid_ends : (w : WheelParts) (c : Capture) (rs : List Report) (cs : List CertLine) → IsValid w c.instants rs cs → AnswersEnd w c rs cs done.Whole
valid_ends w c rs cs valid a is = ap ended_with (answer_yes w c.instants rs cs a valid is)

pub invalid_ends : (w : WheelParts) (c : Capture) (rs : List Report) (cs : List CertLine) → ¬ IsValid w c.instants rs cs → AnswersEnd w c rs cs done.No
invalid_ends w c rs cs not_valid Yes is = absurd (not_valid is)
invalid_ends w c rs cs not_valid (No instant rule) is = refl

pub not_err : {T E : Type 0} (x : T) (e : E) → ◌≡◌ {A = Result T E} (Ok x) (Err e) → ⊥
not_err x e is = cc

pub calm_answer : (a : Answer) → IsCalm (ended_with a)
calm_answer Yes = tt
calm_answer (No instant rule) = tt

answer_not_usage : (a : Answer) → ended_with a ≡ Err cause.Usage → ⊥
answer_not_usage Yes is = cc
answer_not_usage (No instant rule) is = cc

-- no check ends for usage
pub check_not_usage : (v : View) (wheel capture report cert : List ℕ) (o : Options) (work : Work) → IsCheck v wheel capture report cert o work → work.end ≡ Err cause.Usage → ⊥
check_not_usage v wheel capture report cert o work r =
    reads_not_usage _ _ _ _ _ work
    (λ w rest n. reads_not_usage _ _ _ _ _ rest
    (λ c more m. reads_not_usage _ _ _ _ _ more
    (λ rs last l. reads_not_usage _ _ _ _ _ last
    (λ cs end k. writes_not_usage (IsAnswered w c rs cs) end (λ text x d is. answer_not_usage d.0 (sym d.1.1.1 ∙ is)) k) l) m) n) r
