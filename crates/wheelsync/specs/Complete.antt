-- When a run has nothing to refuse.
use Rattle.std.specs.Prelude.{◌≡◌, ◌⊎◌, List, ℕ}
use Rattle.std.specs.declared.option.Option.{Option}
use Rattle.wheel_types.specs.declared.parts.WheelParts.{WheelParts}
use Rattle.capture_core.specs.declared.capture.Capture.{Capture}
use Rattle.capture_core.specs.declared.capture.End.TheVariants.{Clean}
use Rattle.command_words.specs.Options.{Options}
use Rattle.run_files.specs.Files.{HasWheel, HasPlacedWheel, HasTable}
use Rattle.named_captures.specs.Captures.{HasNamedCapture}
use Rattle.table_commands.specs.States.{HasFewStates}
use Rattle.table_models.specs.Models.{HasModel}
use Rattle.command_words.specs.Words.{Order, Replay, Import, Size, Compile, Check, Audit, Trace, Stim, SelfTest}
use Rattle.table_images.specs.Images.{IsSoundImage}
use Rattle.image_commands.specs.Images.{HasImage}
use Rattle.image_commands.specs.TraceEnding.{AreTraced}
use Rattle.stimulus_commands.specs.Stimuli.{HasStimulus}
use Rattle.wheel_types.specs.declared.verdict.Report.{Report}
use Rattle.pair_certificate.specs.declared.line.CertLine.{CertLine}
use Rattle.certificate_checker.specs.Valid.{IsValid}
use Rattle.check_command.specs.Checked.{AreChecked}
use Rattle.run_ends.specs.declared.status.Status.{Status}
use Rattle.run_ends.specs.declared.status.Status.TheVariants as status

-- the model's file is one of this wheel, and the other has this capture over it, however it ends
pub record AreRead (file : List ℕ → Option (List ℕ)) (model capture_name : List ℕ) (o : Options) (w : WheelParts) (capture : Capture) : Type 0 where
  pub model_file : HasModel file model w
  pub capture_file : HasNamedCapture file capture_name w o capture

-- both files are accepted, with this wheel and this capture: it ends clean
pub record AreAccepted (file : List ℕ → Option (List ℕ)) (model capture_name : List ℕ) (o : Options) (w : WheelParts) (capture : Capture) : Type 0 where
  pub files : AreRead file model capture_name o w capture
  pub clean : capture.end ≡ Clean

-- the wheel's file is there, and its places and its family are within their limits
pub record IsCounted (file : List ℕ → Option (List ℕ)) (wheel : List ℕ) (w : WheelParts) : Type 0 where
  pub wheel_file : HasPlacedWheel file wheel w
  pub few : HasFewStates w

-- the files are there, short enough and accepted: a certificate that is to be checked is valid, an image that is to be audited holds the
-- table of its own wheel, and a wheel that is to have a stimulus has one
abbrev pub AreReady : (List ℕ → Option (List ℕ)) → Order → Type 0
AreReady file (Replay model capture_name cert o) = (w : WheelParts) × ((capture : Capture) × AreAccepted file model capture_name o w capture)
AreReady file (Import source name) = (slots : List ℕ) × HasTable file source name slots
AreReady file (Size wheel) = (w : WheelParts) × IsCounted file wheel w
AreReady file (Compile wheel image) = (w : WheelParts) × IsCounted file wheel w
AreReady file (Check wheel capture_name report cert o) =
    (w : WheelParts) × ((capture : Capture) × ((rs : List Report) × ((cs : List CertLine) × (AreChecked file wheel capture_name report cert o w capture rs cs × IsValid w capture.instants rs cs))))
AreReady file (Audit image) = (bytes : List ℕ) × (HasImage file image bytes × IsSoundImage bytes)
AreReady file (Trace image capture_name o) = (bytes : List ℕ) × ((capture : Capture) × AreTraced file image capture_name o bytes capture)
AreReady file (Stim wheel form seed gaps made) = (w : WheelParts) × (HasWheel file wheel w × HasStimulus w seed gaps)
AreReady file (SelfTest wheel seed gaps) = (w : WheelParts) × (IsCounted file wheel w × HasStimulus w seed gaps)

-- the files of a check are there, short enough and accepted, and its certificate is not valid
abbrev pub IsDenied : (List ℕ → Option (List ℕ)) → Order → Type 0
IsDenied file (Check wheel capture_name report cert o) =
    (w : WheelParts) × ((capture : Capture) × ((rs : List Report) × ((cs : List CertLine) × (AreChecked file wheel capture_name report cert o w capture rs cs × (¬ IsValid w capture.instants rs cs)))))
IsDenied file (Replay model capture_name cert o) = ⊥
IsDenied file (Import source name) = ⊥
IsDenied file (Size wheel) = ⊥
IsDenied file (Compile wheel image) = ⊥
IsDenied file (Audit image) = ⊥
IsDenied file (Trace image capture_name o) = ⊥
IsDenied file (Stim wheel form seed gaps made) = ⊥
IsDenied file (SelfTest wheel seed gaps) = ⊥

-- the status is the one that the files make due, or want of memory: done where they are accepted, no where a check's certificate is not valid
abbrev pub IsDue : (List ℕ → Option (List ℕ)) → Order → Status → Type 0
IsDue file order s =
    (AreReady file order → (s ≡ status.Done) ⊎ (s ≡ status.Memory)) × (IsDenied file order → (s ≡ status.No) ⊎ (s ≡ status.Memory))
