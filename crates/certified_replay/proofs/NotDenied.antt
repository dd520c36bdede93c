-- What a replay wrote is not denied.
use Rattle.std.proofs.Common.{◌≡◌, ℕ, ◌⊎◌, inl, inr, List, [], Option, Some, unwrap_or, Result, Ok, Err, sym, ◌∙◌, ap, subst}
use Rattle.std.specs.Prelude.{IsTrue}
use Rattle.shelf_traits.specs.Shelf.{View}
use Rattle.wheel_types.specs.declared.parts.WheelParts.{WheelParts}
use Rattle.wheel_types.specs.declared.verdict.Report.{Report}
use Rattle.capture_core.specs.declared.capture.Capture.{Capture}
use Rattle.pair_certificate.specs.declared.line.CertLine.{CertLine}
use Rattle.pair_certificate.specs.Readings.{MeansReports, MeansCertificate}
use Rattle.pair_certificate.proofs.OneMeaning.{one_report, one_certificate}
use Rattle.certificate_checker.specs.declared.rule.Answer.{Answer}
use Rattle.certificate_checker.specs.declared.rule.Answer.TheVariants.{Yes}
use Rattle.certificate_checker.specs.Answers.{IsAnswer}
use Rattle.certificate_checker.specs.Valid.{IsValid}
use Rattle.certificate_checker.proofs.OneAnswer.{answer_yes}
use Rattle.command_words.specs.Options.{Options}
use Rattle.run_ends.specs.declared.cause.Cause.{Cause}
use Rattle.run_ends.specs.declared.cause.Done.{Done}
use Rattle.run_ends.specs.declared.cause.Done.TheVariants as done
use Rattle.run_ends.specs.Works.{Work, Told, Reads, Judges, Writes, StopsOpen, StopsRead, StopsJudge, StopsWrite, stopped, read_slot, after, Went}
use Rattle.run_ends.specs.Stages.{Past, Closes, Creates, Takes, write_slot, IsClosed, unclosed}
use Rattle.run_ends.proofs.Tapping.{unclosed_cases}
use Rattle.run_ends.specs.declared.cause.Cause.TheVariants as cause
use Rattle.run_ends.proofs.Completing.{reads_end, writes_end}
use Rattle.run_files.specs.Causes.{FileGives, ModelGives, ReportGives, CertificateGives}
use Rattle.run_files.specs.Files.{Holds, HasPlacedWheel, HasReport, HasCertificate}
use Rattle.named_captures.specs.Captures.{HasNamedCapture, HasCleanCapture, CleanGives}
use Rattle.named_captures.proofs.FileNames.{file_has_one_capture}
use Rattle.check_command.specs.Check.{IsAnswered, IsCheck, ended_with}
use Rattle.certified_replay.specs.Certified.{AreBelieved, WritesCertified, IsCertifiedPast, IsCertifiedOver, IsCertified}
use Rattle.certified_replay.specs.Laws.{HasWritten, WheelFilesAreTheirOwn}
use Rattle.image_layout.specs.Fields.{wheel_parts_of}
use Rattle.table_images.specs.Images.{IsSoundImage}
use Rattle.wheel_pattern.specs.WheelFile.{MeansWheel}
use Rattle.wheel_pattern.proofs.OneMeaning.{one_wheel}
use Rattle.table_models.specs.Models.{BeginAsImage, HasModelImage, TableGives, NotSoundGives, MeansModel, HasModel}
use Rattle.table_models.proofs.Ready.{has_model}

-- what a replay that is done has read and written
record HasDone (v : View) (w : WheelParts) (capture : List ℕ) (o : Options) (work : Work) : Type 0 where
  pub instants : Capture
  pub captured : Told v (HasNamedCapture v.file capture w o instants)
  pub made : List ℕ
  pub is_made : work.made ≡ Some made
  pub believed : AreBelieved w instants.instants work.out made

not_done : (e : Cause) → ◌≡◌ {A = Result Done Cause} (Err e) (Ok done.Whole) → ⊥
not_done e is = cc

by_takes : (v : View) (w : WheelParts) (capture : List ℕ) (o : Options) (work : Work) → Takes v (FileGives v.file capture) (HasNamedCapture v.file capture w o) (λ c. WritesCertified w c) work → work.end ≡ Ok done.Whole → HasDone v w capture o work
by_takes v w capture o work r whole = by r.went
  where
    by : ((e : Cause) × (StopsRead v (FileGives v.file capture) e × (work ≡ stopped [] e))) ⊎ ((c : Capture) × (Told v (HasNamedCapture v.file capture w o c) × WritesCertified w c work)) → HasDone v w capture o work
    by (inl (e, (s, is))) = absurd (not_done e (sym (ap (λ (k : Work). k.end) is) ∙ whole))
    by (inr (c, (a, (writes, back)))) = let b = back done.Whole whole in record { instants = c; captured = a; made = b.0; is_made = b.1.0; believed = b.1.1 }

by_creates : (v : View) (w : WheelParts) (capture cert : List ℕ) (o : Options) (work : Work) → Creates cert (Takes v (FileGives v.file capture) (HasNamedCapture v.file capture w o) (λ c. WritesCertified w c)) work → work.end ≡ Ok done.Whole
    → HasDone v w capture o work
by_creates v w capture cert o work r whole = by r.went
  where
    by : ((e : Cause) × (StopsWrite e × (work ≡ stopped [] e))) ⊎ ((rest : Work) × (Takes v (FileGives v.file capture) (HasNamedCapture v.file capture w o) (λ c. WritesCertified w c) rest × (work ≡ record (after (write_slot cert) rest) { made = Some (unwrap_or rest.made []) })))
        → HasDone v w capture o work
    by (inl (e, (s, is))) = absurd (not_done e (sym (ap (λ (k : Work). k.end) is) ∙ whole))
    by (inr (rest, (n, is))) =
        let h = by_takes v w capture o rest n (sym (ap (λ (k : Work). k.end) is) ∙ whole) in
        record {
          instants = h.instants;
          captured = h.captured;
          made = h.made;
          is_made = ap (λ (k : Work). k.made) is ∙ ap (λ (m : Option (List ℕ)). Some (unwrap_or m [])) h.is_made;
          believed = subst (λ out. AreBelieved w h.instants.instants out h.made) (sym (ap (λ (k : Work). k.out) is)) h.believed;
        }

by_closes : (v : View) (tails : List ℕ → List ℕ) (w : WheelParts) (capture cert : List ℕ) (o : Options) (work : Work) → Closes tails (IsCertifiedPast v w capture cert o) work → work.end ≡ Ok done.Whole → HasDone v w capture o work
by_closes v tails w capture cert o work r whole = by r.closed
  where
    not_unclosed : ((r.rest.end ≡ Err cause.WriteFault) × (unclosed r.rest.end ≡ r.rest.end)) ⊎ ((¬ (r.rest.end ≡ Err cause.WriteFault)) × (unclosed r.rest.end ≡ Err cause.Memory)) → unclosed r.rest.end ≡ Ok done.Whole → ⊥
    not_unclosed (inl (fault, same)) is = not_done cause.WriteFault (sym fault ∙ sym same ∙ is)
    not_unclosed (inr (n, want)) is = not_done cause.Memory (sym want ∙ is)

    by : IsClosed tails r.rest work → HasDone v w capture o work
    by (inl (n, is)) =
        let h = by_creates v w capture cert o r.rest r.went (sym (ap (λ (k : Work). k.end) is) ∙ whole) in
        record {
          instants = h.instants;
          captured = h.captured;
          made = h.made;
          is_made = ap (λ (k : Work). k.made) is ∙ h.is_made;
          believed = subst (λ out. AreBelieved w h.instants.instants out h.made) (sym (ap (λ (k : Work). k.out) is)) h.believed;
        }
    by (inr is) = absurd (not_unclosed (unclosed_cases r.rest.end) (sym (ap (λ (k : Work). k.end) is) ∙ whole))

by_opens : (v : View) (tails : List ℕ → List ℕ) (w : WheelParts) (capture cert : List ℕ) (o : Options) (work : Work) → IsCertifiedOver v tails w capture cert o work → work.end ≡ Ok done.Whole → HasDone v w capture o work
by_opens v tails w capture cert o work r whole = by r.went
  where
    by : ((e : Cause) × (StopsOpen v capture e × (work ≡ stopped [] e))) ⊎ Past capture (Closes tails (IsCertifiedPast v w capture cert o)) work → HasDone v w capture o work
    by (inl (e, (s, is))) = absurd (not_done e (sym (ap (λ (k : Work). k.end) is) ∙ whole))
    by (inr (taken, (rest, (n, is)))) =
        let h = by_closes v tails w capture cert o rest n (sym (ap (λ (k : Work). k.end) is) ∙ whole) in
        record {
          instants = h.instants;
          captured = h.captured;
          made = h.made;
          is_made = ap (λ (k : Work). k.made) is ∙ h.is_made;
          believed = subst (λ out. AreBelieved w h.instants.instants out h.made) (sym (ap (λ (k : Work). k.out) is)) h.believed;
        }

-- ---- the check of what was written

holds_there : (file other : List ℕ → Option (List ℕ)) (name bytes : List ℕ) → other name ≡ file name → Holds file name bytes → Holds other name bytes
holds_there file other name bytes same h = record { there = same ∙ h.there; short = h.short }

-- a file that is there with a text has no other bytes
has_text : (file : List ℕ → Option (List ℕ)) (name bytes text : List ℕ) → file name ≡ Some text → Holds file name bytes → bytes ≡ text
has_text file name bytes text is h = let same : Some bytes ≡ Some text = sym h.there ∙ is in cc

yes_is_not_no : (a : Answer) (end : Result Done Cause) → a ≡ Yes → end ≡ ended_with a → end ≡ Ok done.No → ⊥
yes_is_not_no a end said is denied = let same : ◌≡◌ {A = Result Done Cause} (Ok done.Whole) (Ok done.No) = sym (ap ended_with said) ∙ sym is ∙ denied in cc

-- whatever is answered of the files, it is yes
answered : (v u : View) (model wheel capture report cert : List ℕ) (o : Options) (w x : WheelParts) (c : Capture) (rs : List Report) (cs : List CertLine) (a : Answer) (work : Work) → IsTrue v.tells → HasModel v.file model w
    → HasDone v w capture o work → HasWritten v u model wheel capture report cert work → HasPlacedWheel u.file wheel x → HasCleanCapture u.file capture x o c → HasReport u.file report rs → HasCertificate u.file cert cs
    → IsAnswer x c.instants rs cs a → a ≡ Yes
answered v u model wheel capture report cert o w x c rs cs a work told m d h n k r q answer =
    let same : x ≡ w = h.wheel_file w x m n in
    let old = d.captured told in
    let here : HasNamedCapture u.file capture w o d.instants = record { bytes = old.bytes; holds = holds_there v.file u.file capture old.bytes h.capture_file old.holds; read = old.read } in
    let one : c ≡ d.instants = file_has_one_capture u.file capture w o c d.instants (subst (λ y. HasNamedCapture u.file capture y o c) same k.read) here in
    let reports : rs ≡ d.believed.report = one_report work.out rs d.believed.report (subst (λ b. MeansReports b rs) (has_text u.file report r.bytes work.out h.report_file r.holds) r.means) d.believed.means_report in
    let lines : cs ≡ d.believed.certificate = one_certificate d.made cs d.believed.certificate (subst (λ b. MeansCertificate b cs) (has_text u.file cert q.bytes d.made (h.cert_file ∙ d.is_made) q.holds) q.means) d.believed.means_certificate in
    let valid : IsValid x c.instants rs cs
    = subst (λ y. IsValid y c.instants rs cs) (sym same)
    (subst (λ (z : Capture). IsValid w z.instants rs cs) (sym one) (subst (λ l. IsValid w d.instants.instants l cs) (sym reports) (subst (IsValid w d.instants.instants d.believed.report) (sym lines) d.believed.valid))) in
    answer_yes x c.instants rs cs a valid answer

pub not_denied : (v u : View) (tails : List ℕ → List ℕ) (model wheel capture report cert made : List ℕ) (o : Options) (replayed checked : Work) → IsTrue v.tells → IsCertified v tails model capture made o replayed → replayed.end ≡ Ok done.Whole
    → HasWritten v u model wheel capture report cert replayed → IsCheck u wheel capture report cert o checked → checked.end ≡ Ok done.No → ⊥
not_denied v u tails model wheel capture report cert made o replayed checked told r whole h check = by r.went
  where
    denied : (w : WheelParts) (work : Work) → HasModel v.file model w → HasDone v w capture o work → HasWritten v u model wheel capture report cert work → checked.end ≡ Ok done.No → ⊥
    denied w work m d h =
        reads_end u wheel (ModelGives u.file wheel) (HasPlacedWheel u.file wheel)
        (λ x. Reads u capture (CleanGives u.file capture x o) (HasCleanCapture u.file capture x o)
        (λ c. Reads u report (ReportGives u.file report) (HasReport u.file report)
        (λ (rs : List Report). Reads u cert (CertificateGives u.file cert) (HasCertificate u.file cert) (λ (cs : List CertLine). Writes (IsAnswered x c rs cs))))) (λ end. end ≡ Ok done.No → ⊥) checked
        (λ e s is. cc) (λ e s is. cc)
        (λ x second n p.
        reads_end u capture (CleanGives u.file capture x o) (HasCleanCapture u.file capture x o)
        (λ c. Reads u report (ReportGives u.file report) (HasReport u.file report)
        (λ (rs : List Report). Reads u cert (CertificateGives u.file cert) (HasCertificate u.file cert) (λ (cs : List CertLine). Writes (IsAnswered x c rs cs)))) (λ end. end ≡ Ok done.No → ⊥) second
        (λ e s is. cc) (λ e s is. cc)
        (λ c third k q.
        reads_end u report (ReportGives u.file report) (HasReport u.file report)
        (λ (rs : List Report). Reads u cert (CertificateGives u.file cert) (HasCertificate u.file cert) (λ (cs : List CertLine). Writes (IsAnswered x c rs cs))) (λ end. end ≡ Ok done.No → ⊥) third
        (λ e s is. cc) (λ e s is. cc)
        (λ rs fourth l t.
        reads_end u cert (CertificateGives u.file cert) (HasCertificate u.file cert) (λ (cs : List CertLine). Writes (IsAnswered x c rs cs)) (λ end. end ≡ Ok done.No → ⊥) fourth
        (λ e s is. cc) (λ e s is. cc)
        (λ cs last j z.
        writes_end (IsAnswered x c rs cs) (λ end. end ≡ Ok done.No → ⊥) last
        (λ text end a last_no. yes_is_not_no a.0 end (answered v u model wheel capture report cert o w x c rs cs a.0 work told m d h (n h.told) (k h.told) (l h.told) (j h.told) a.1.0) a.1.1.1 last_no)
        (λ e s is. cc) z) t) q) p)
        check

    judged : (image : List ℕ) (rest : Work) (taken : ℕ) → HasModelImage v.file model image
        → ((e : Cause) × (StopsJudge (NotSoundGives image) e × (rest ≡ stopped [] e))) ⊎ (IsSoundImage image × IsCertifiedOver v tails (wheel_parts_of image) capture made o rest)
        → replayed ≡ after (read_slot model taken) rest → checked.end ≡ Ok done.No → ⊥
    judged image rest taken a (inl (e, (s, was))) is = absurd (not_done e (sym (ap (λ (k : Work). k.end) was) ∙ sym (ap (λ (k : Work). k.end) is) ∙ whole))
    judged image rest taken a (inr (sound, n)) is =
        let w = wheel_parts_of image in
        let d = by_opens v tails w capture made o rest n (sym (ap (λ (k : Work). k.end) is) ∙ whole) in
        denied w replayed (has_model v.file model image a sound) (record {
          instants = d.instants;
          captured = d.captured;
          made = d.made;
          is_made = ap (λ (k : Work). k.made) is ∙ d.is_made;
          believed = subst (λ out. AreBelieved w d.instants.instants out d.made) (sym (ap (λ (k : Work). k.out) is)) d.believed;
        }) h

    by : Went v model (TableGives v.file model) (HasModelImage v.file model)
        (λ image. Judges (NotSoundGives image) (IsSoundImage image) (IsCertifiedOver v tails (wheel_parts_of image) capture made o)) replayed → checked.end ≡ Ok done.No → ⊥
    by (inl (e, (s, is))) = absurd (not_done e (sym (ap (λ (k : Work). k.end) is) ∙ whole))
    by (inr (inl (e, (taken, (s, is))))) = absurd (not_done e (sym (ap (λ (k : Work). k.end) is) ∙ whole))
    by (inr (inr (image, (taken, (rest, (a, (n, is))))))) = judged image rest taken (a told) n.judged is

-- ---- a wheel file's own wheel

same_wheel : (bytes : List ℕ) (w x : WheelParts) → ¬ BeginAsImage bytes → MeansModel bytes w → MeansWheel bytes x → x ≡ w
same_wheel bytes w x other (inl (begins, m)) means = absurd (other begins)
same_wheel bytes w x other (inr (f, few)) means = one_wheel bytes x w means f.means

one_there : (file : List ℕ → Option (List ℕ)) (name bytes read : List ℕ) → file name ≡ Some bytes → Holds file name read → read ≡ bytes
one_there file name bytes read there h = let both : Some read ≡ Some bytes = sym h.there ∙ there in cc

pub wheel_files_are_their_own : WheelFilesAreTheirOwn
wheel_files_are_their_own file other name bytes w x there too plain m n =
    same_wheel bytes w x plain (subst (λ b. MeansModel b w) (one_there file name bytes m.bytes there m.holds) m.model)
    (subst (λ b. MeansWheel b x) (one_there other name bytes n.wheel.bytes too n.wheel.holds) n.wheel.wheel)
