-- What is put on out and into the certificate's file. Lists of instants, verdicts and lines have the last one first.
use Rattle.std.specs.Prelude.{◌≡◌, ◌+◌, ◌⊎◌, ℕ, List, ◌∷◌, ◌++◌, length, IsTrue}
use Rattle.std.specs.declared.option.Option.{Option}
use Rattle.std.specs.Io.KnownBytes.{Appends}
use Rattle.shelf_traits.specs.Count.{Rose}
use Rattle.shelf_traits.specs.Shelf.{View}
use Rattle.shelf_io.specs.Touching.{FailedWrite}
use Rattle.wheel_types.specs.declared.instant.Instant.{Instant}
use Rattle.wheel_types.specs.declared.verdict.Verdict.{Verdict}
use Rattle.wheel_types.specs.declared.verdict.Report.{Report}
use Rattle.wheel_types.specs.declared.parts.WheelParts.{WheelParts}
use Rattle.wheel_types.specs.Texts.{report_line_text}
use Rattle.replay_core.specs.declared.session.Session.{Session}
use Rattle.pair_certificate.specs.declared.line.CertLine.{CertLine}
use Rattle.pair_certificate.specs.Certificates.{cert_line_text}
use Rattle.certificate_checker.specs.Reports.{report_of}
use Rattle.run_ends.specs.declared.cause.Cause.{Cause}
use Rattle.run_ends.specs.declared.cause.Cause.TheVariants as cause
use Rattle.run_ends.specs.Works.{StopsWrite}
use Rattle.run_ends.specs.Serving.{Stream}
use Rattle.run_ends.specs.Stages.{Fellows, AreCut, lines_text, beside_text, marks_beside}
use Rattle.run_ends.specs.Filing.{Grows}
use Rattle.tap_board.specs.Marks.{mark_of}
use Rattle.tap_board.specs.Meanings.{Meaning, told, told_all}
use Rattle.certified_replay.specs.Lines.{TakesOne}
use Rattle.certified_replay.specs.Certified.{AreCertified, AreBelieved}

-- writing on out or into the file stopped for this cause: at a write fault a count rose, of an end that was not steady
pub record StoppedBoth (v w : View) (old new : Stream) (e : Cause) : Type 0 where
  pub kinds : StopsWrite e
  pub fault : e ≡ cause.WriteFault → Rose old.faults new.faults ⊎ FailedWrite v w
  pub calm : e ≡ cause.WriteFault → IsTrue old.steady → IsTrue v.steady → ⊥
  pub settled : ¬ (e ≡ cause.WriteFault) → (new.faults ≡ old.faults) × (w.faults_out ≡ v.faults_out)

-- out grows by the one text, and the slot's file by the other
pub record GetsTexts (v w : View) (slot : ℕ) (old new : Option (List ℕ)) (text beside : List ℕ) : Type 0 where
  pub out : Appends old new text
  pub file : Grows v w slot beside

-- out and the file get a line and its fellow as far as writing came, where it stopped for this cause
pub record GetsCut (e : Cause) (v w : View) (slot : ℕ) (old new : Option (List ℕ)) (f : Fellows) : Type 0 where
  pub line : List ℕ
  pub beside : List ℕ
  pub are_cut : AreCut e f line beside
  pub texts : GetsTexts v w slot old new line beside

-- a line, its fellow, and the mark
abbrev pub stand_beside : (line beside : List ℕ) (mark : ℕ) → Fellows
stand_beside line beside mark = record { line = line; beside = beside; mark = mark }

-- a line of a report, and the line of a certificate beside it
abbrev pub fellow_of : Report → CertLine → Fellows
fellow_of r c = stand_beside (report_line_text r) (cert_line_text c) (mark_of r.verdict)

-- one more instant was taken, out and the file got its two lines, and the taps were told its mark
pub record GetsLines (w : WheelParts) (session : Session) (v u : View) (slot : ℕ) (old new : Option (List ℕ)) (taps live : List Meaning) (i : Instant) (past : List Instant) (verdicts : List Verdict) (certificate : List CertLine) : Type 0 where
  pub takes : TakesOne w session i past verdicts certificate
  pub texts : GetsTexts v u slot old new (report_line_text (report_of (length past + 1) i takes.verdict)) (cert_line_text takes.line)
  pub heard : live ≡ told (mark_of takes.verdict) taps

-- or they got its two lines as far as writing came
pub record GetsCutLines (e : Cause) (w : WheelParts) (session : Session) (v u : View) (slot : ℕ) (old new : Option (List ℕ)) (i : Instant) (past : List Instant) (verdicts : List Verdict) (certificate : List CertLine) : Type 0 where
  pub takes : TakesOne w session i past verdicts certificate
  pub cut : GetsCut e v u slot old new (fellow_of (report_of (length past + 1) i takes.verdict) takes.line)

-- out and the file got the report of the instants and its exact certificate, these are a report and a certificate that is valid for it, and
-- the taps were told the marks of all
pub record GetsBoth (w : WheelParts) (instants : List Instant) (v u : View) (slot : ℕ) (old new : Option (List ℕ)) (taps live : List Meaning) : Type 0 where
  pub all : List Fellows
  pub certified : AreCertified w instants all
  pub texts : GetsTexts v u slot old new (lines_text all) (beside_text all)
  pub believed : AreBelieved w instants (lines_text all) (beside_text all)
  pub heard : live ≡ told_all (marks_beside all) taps

-- or they got them as far as writing came, where it stopped for this cause
pub record GetsBothFront (e : Cause) (w : WheelParts) (instants : List Instant) (v u : View) (slot : ℕ) (old new : Option (List ℕ)) (taps live : List Meaning) : Type 0 where
  pub before : List Fellows
  pub cut : Fellows
  pub rest : List Fellows
  pub certified : AreCertified w instants (before ++ cut ∷ rest)
  pub line : List ℕ
  pub beside : List ℕ
  pub are_cut : AreCut e cut line beside
  pub texts : GetsTexts v u slot old new (lines_text before ++ line) (beside_text before ++ beside)
  pub heard : e ≡ cause.WriteFault → live ≡ told_all (marks_beside before) taps
