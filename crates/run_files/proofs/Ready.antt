-- Accepted files give no cause to end but want of memory and a failed write.
use Rattle.std.proofs.Common.{◌≡◌, ℕ, inl, inr, List, [], ◌∷◌, ◌++◌, length, Option, None, Some, Result, Ok, Err, refl, sym, ◌∙◌, subst, ap, arith}
use Rattle.wheel_types.specs.declared.parts.WheelParts.{WheelParts}
use Rattle.wheel_pattern.specs.declared.fault.PatternFault.{PatternFault}
use Rattle.c_tables.specs.declared.fault.TableFault.{TableFault}
use Rattle.wheel_pattern.specs.WheelFile.{MeansWheel}
use Rattle.c_tables.specs.Tables.{table_in}
use Rattle.wheel_pattern.proofs.OneMeaning.{one_wheel, not_both}
use Rattle.capture_core.specs.declared.capture.End.{End}
use Rattle.capture_core.specs.declared.capture.End.TheVariants.{Clean, Csv, Vcd}
use Rattle.run_ends.specs.declared.cause.Cause.{Cause}
use Rattle.run_ends.specs.declared.cause.Cause.TheVariants as cause
use Rattle.run_ends.specs.declared.cause.Refusal.TheVariants as refusal
use Rattle.run_ends.specs.declared.cause.Limit.TheVariants as limit
use Rattle.wheel_types.specs.declared.verdict.Report.{Report}
use Rattle.pair_certificate.specs.declared.line.CertLine.{CertLine}
use Rattle.pair_certificate.specs.Lines.{lines_of}
use Rattle.pair_certificate.specs.Readings.{AreLines, IsReportLine, IsCertLine, IsFirstBadLine, MeansReports, MeansCertificate}
use Rattle.pair_certificate.proofs.OneMeaning.{one_report, one_certificate}
use Rattle.run_files.specs.Files.{Holds, IsTooLong, HasWheel, HasPlacedWheel, HasTable, HasReport, HasCertificate}
use Rattle.run_files.specs.Causes.{FileGives, WheelGives, ModelGives, SourceGives, ReportGives, CertificateGives}
use Rattle.cam_ranges.specs.Places.{HasTooMany}

-- a file has one list of bytes
pub same_bytes : (file : List ℕ → Option (List ℕ)) (name a b : List ℕ) → Holds file name a → Holds file name b → a ≡ b
same_bytes file name a b h k = let e : Some a ≡ Some b = sym h.there ∙ k.there in cc

-- a file is not both short enough and too long
not_too_long : (file : List ℕ → Option (List ℕ)) (name bytes : List ℕ) → Holds file name bytes → IsTooLong file name → ⊥
not_too_long file name bytes h (more, (there, long)) =
    let same : bytes ≡ more = let e : Some bytes ≡ Some more = sym h.there ∙ there in cc in
    let e : length bytes ≡ length more = ap length same in
    let short = h.short in
    omega (arith, e, short, long)

there_is : (file : List ℕ → Option (List ℕ)) (name bytes : List ℕ) → Holds file name bytes → file name ≡ None → ⊥
there_is file name bytes h none = let e : Some bytes ≡ None = sym h.there ∙ none in cc

-- the wheel of a file is one
pub file_has_one_wheel : (file : List ℕ → Option (List ℕ)) (name : List ℕ) (v w : WheelParts) → HasWheel file name v → HasWheel file name w → v ≡ w
file_has_one_wheel file name v w h k = one_wheel k.bytes v w (subst (λ b. MeansWheel b v) (same_bytes file name h.bytes k.bytes h.holds k.holds) h.wheel) k.wheel

-- a model that is accepted gives no cause
pub model_gives_none : (file : List ℕ → Option (List ℕ)) (name : List ℕ) (w : WheelParts) → HasPlacedWheel file name w → (e : Cause) → ModelGives file name e → ⊥
model_gives_none file name w h (cause.Refused (refusal.Wheel no_wheel)) (bytes, (holds, f)) =
    not_both bytes w no_wheel.fault (subst (λ b. MeansWheel b w) (same_bytes file name h.wheel.bytes bytes h.wheel.holds holds) h.wheel.wheel) f
model_gives_none file name w h (cause.Limit limit.Places) (v, (wheel, many)) = h.few (subst HasTooMany (file_has_one_wheel file name v w wheel h.wheel) many)
model_gives_none file name w h (cause.Limit limit.File) g = not_too_long file name h.wheel.bytes h.wheel.holds g
model_gives_none file name w h (cause.Refused (refusal.Table fault)) g = g
model_gives_none file name w h (cause.Refused (refusal.Csv fault)) g = g
model_gives_none file name w h (cause.Refused (refusal.Vcd fault)) g = g
model_gives_none file name w h (cause.Refused (refusal.Image fault)) g = g
model_gives_none file name w h (cause.Refused (refusal.Audit not_sound)) g = g
model_gives_none file name w h (cause.Refused (refusal.Stuck gap low high)) g = g
model_gives_none file name w h (cause.Refused (refusal.Report at)) g = g
model_gives_none file name w h (cause.Refused (refusal.Certificate at)) g = g
model_gives_none file name w h (cause.Limit (limit.States most)) g = g
model_gives_none file name w h (cause.Limit limit.Edges) g = g
model_gives_none file name w h cause.Usage g = g
model_gives_none file name w h cause.ReadFault g = g
model_gives_none file name w h cause.WriteFault g = g
model_gives_none file name w h cause.Memory g = g

-- nor does a wheel's file, whatever places the wheel has
pub wheel_gives_none : (file : List ℕ → Option (List ℕ)) (name : List ℕ) (w : WheelParts) → HasWheel file name w → (e : Cause) → WheelGives file name e → ⊥
wheel_gives_none file name w h (cause.Refused (refusal.Wheel no_wheel)) (bytes, (holds, f)) =
    not_both bytes w no_wheel.fault (subst (λ b. MeansWheel b w) (same_bytes file name h.bytes bytes h.holds holds) h.wheel) f
wheel_gives_none file name w h (cause.Limit limit.File) g = not_too_long file name h.bytes h.holds g
wheel_gives_none file name w h (cause.Refused (refusal.Table fault)) g = g
wheel_gives_none file name w h (cause.Refused (refusal.Csv fault)) g = g
wheel_gives_none file name w h (cause.Refused (refusal.Vcd fault)) g = g
wheel_gives_none file name w h (cause.Refused (refusal.Image fault)) g = g
wheel_gives_none file name w h (cause.Refused (refusal.Audit not_sound)) g = g
wheel_gives_none file name w h (cause.Refused (refusal.Stuck gap low high)) g = g
wheel_gives_none file name w h (cause.Refused (refusal.Report at)) g = g
wheel_gives_none file name w h (cause.Refused (refusal.Certificate at)) g = g
wheel_gives_none file name w h (cause.Limit limit.Places) g = g
wheel_gives_none file name w h (cause.Limit (limit.States most)) g = g
wheel_gives_none file name w h (cause.Limit limit.Edges) g = g
wheel_gives_none file name w h cause.Usage g = g
wheel_gives_none file name w h cause.ReadFault g = g
wheel_gives_none file name w h cause.WriteFault g = g
wheel_gives_none file name w h cause.Memory g = g

-- nor does a file that is short enough
pub file_gives_none : (file : List ℕ → Option (List ℕ)) (name bytes : List ℕ) → Holds file name bytes → (e : Cause) → FileGives file name e → ⊥
file_gives_none file name bytes h (cause.Limit limit.File) g = not_too_long file name bytes h g
file_gives_none file name bytes h (cause.Limit limit.Places) g = g
file_gives_none file name bytes h (cause.Limit (limit.States most)) g = g
file_gives_none file name bytes h (cause.Limit limit.Edges) g = g
file_gives_none file name bytes h (cause.Refused r) g = g
file_gives_none file name bytes h cause.Usage g = g
file_gives_none file name bytes h cause.ReadFault g = g
file_gives_none file name bytes h cause.WriteFault g = g
file_gives_none file name bytes h cause.Memory g = g

-- nor a source that has the table
pub source_gives_none : (file : List ℕ → Option (List ℕ)) (source name slots : List ℕ) → HasTable file source name slots → (e : Cause) → SourceGives file source name e → ⊥
source_gives_none file source name slots h (cause.Refused (refusal.Table no_table)) (bytes, (holds, f)) =
    let same : bytes ≡ h.bytes = same_bytes file source bytes h.bytes holds h.holds in
    let e : Err no_table.fault ≡ Ok slots = sym f ∙ ap (table_in name) same ∙ h.table in
    cc
source_gives_none file source name slots h (cause.Refused (refusal.Wheel fault)) g = g
source_gives_none file source name slots h (cause.Refused (refusal.Csv fault)) g = g
source_gives_none file source name slots h (cause.Refused (refusal.Vcd fault)) g = g
source_gives_none file source name slots h (cause.Refused (refusal.Image fault)) g = g
source_gives_none file source name slots h (cause.Refused (refusal.Audit not_sound)) g = g
source_gives_none file source name slots h (cause.Refused (refusal.Stuck gap low high)) g = g
source_gives_none file source name slots h (cause.Refused (refusal.Report at)) g = g
source_gives_none file source name slots h (cause.Refused (refusal.Certificate at)) g = g
source_gives_none file source name slots h (cause.Limit limit.File) g = not_too_long file source h.bytes h.holds g
source_gives_none file source name slots h (cause.Limit limit.Places) g = g
source_gives_none file source name slots h (cause.Limit (limit.States most)) g = g
source_gives_none file source name slots h (cause.Limit limit.Edges) g = g
source_gives_none file source name slots h cause.Usage g = g
source_gives_none file source name slots h cause.ReadFault g = g
source_gives_none file source name slots h cause.WriteFault g = g
source_gives_none file source name slots h cause.Memory g = g

-- a file has one table of a name
pub file_has_one_table : (file : List ℕ → Option (List ℕ)) (source name a b : List ℕ) → HasTable file source name a → HasTable file source name b → a ≡ b
file_has_one_table file source name a b h k =
    let e : ◌≡◌ {A = Result (List ℕ) TableFault} (Ok a) (Ok b) = sym h.table ∙ ap (table_in name) (same_bytes file source h.bytes k.bytes h.holds k.holds) ∙ k.table in
    cc

-- a text whose lines all have values has no first line without one
no_bad_line : {X : Type 0} (IsLine : List ℕ → X → Type 0) (good rest : List (List ℕ)) (bad : List ℕ) (xs : List X) → AreLines IsLine (good ++ bad ∷ rest) xs → (x : X) × IsLine bad x
no_bad_line IsLine [] rest bad (x ∷ xs) a = (x, a.0)
no_bad_line IsLine [] rest bad [] a = absurd a
no_bad_line IsLine (line ∷ good) rest bad (x ∷ xs) a = no_bad_line IsLine good rest bad xs a.1
no_bad_line IsLine (line ∷ good) rest bad [] a = absurd a

not_both_lines : {X : Type 0} (IsLine : List ℕ → X → Type 0) (bytes : List ℕ) (xs : List X) (at : ℕ) → AreLines IsLine (lines_of bytes) xs → IsFirstBadLine IsLine bytes at → ⊥
not_both_lines IsLine bytes xs at a b =
    let found = no_bad_line IsLine b.good b.rest b.bad xs (subst (λ lines. AreLines IsLine lines xs) b.whole a) in
    b.refused found.0 found.1

-- nor does a report
pub report_gives_none : (file : List ℕ → Option (List ℕ)) (name : List ℕ) (rs : List Report) → HasReport file name rs → (e : Cause) → ReportGives file name e → ⊥
report_gives_none file name rs h (cause.Refused (refusal.Report at)) (bytes, (holds, f)) =
    not_both_lines IsReportLine bytes rs at (subst (λ b. MeansReports b rs) (same_bytes file name h.bytes bytes h.holds holds) h.means) f
report_gives_none file name rs h (cause.Refused (refusal.Wheel fault)) g = g
report_gives_none file name rs h (cause.Refused (refusal.Table fault)) g = g
report_gives_none file name rs h (cause.Refused (refusal.Csv fault)) g = g
report_gives_none file name rs h (cause.Refused (refusal.Vcd fault)) g = g
report_gives_none file name rs h (cause.Refused (refusal.Image fault)) g = g
report_gives_none file name rs h (cause.Refused (refusal.Audit not_sound)) g = g
report_gives_none file name rs h (cause.Refused (refusal.Stuck gap low high)) g = g
report_gives_none file name rs h (cause.Refused (refusal.Certificate at)) g = g
report_gives_none file name rs h (cause.Limit l) g = file_gives_none file name h.bytes h.holds (cause.Limit l) g
report_gives_none file name rs h cause.Usage g = g
report_gives_none file name rs h cause.ReadFault g = g
report_gives_none file name rs h cause.WriteFault g = g
report_gives_none file name rs h cause.Memory g = g

-- nor does a certificate
pub certificate_gives_none : (file : List ℕ → Option (List ℕ)) (name : List ℕ) (cs : List CertLine) → HasCertificate file name cs → (e : Cause) → CertificateGives file name e → ⊥
certificate_gives_none file name cs h (cause.Refused (refusal.Certificate at)) (bytes, (holds, f)) =
    not_both_lines IsCertLine bytes cs at (subst (λ b. MeansCertificate b cs) (same_bytes file name h.bytes bytes h.holds holds) h.means) f
certificate_gives_none file name cs h (cause.Refused (refusal.Wheel fault)) g = g
certificate_gives_none file name cs h (cause.Refused (refusal.Table fault)) g = g
certificate_gives_none file name cs h (cause.Refused (refusal.Csv fault)) g = g
certificate_gives_none file name cs h (cause.Refused (refusal.Vcd fault)) g = g
certificate_gives_none file name cs h (cause.Refused (refusal.Image fault)) g = g
certificate_gives_none file name cs h (cause.Refused (refusal.Audit not_sound)) g = g
certificate_gives_none file name cs h (cause.Refused (refusal.Stuck gap low high)) g = g
certificate_gives_none file name cs h (cause.Refused (refusal.Report at)) g = g
certificate_gives_none file name cs h (cause.Limit l) g = file_gives_none file name h.bytes h.holds (cause.Limit l) g
certificate_gives_none file name cs h cause.Usage g = g
certificate_gives_none file name cs h cause.ReadFault g = g
certificate_gives_none file name cs h cause.WriteFault g = g
certificate_gives_none file name cs h cause.Memory g = g

-- a file has one report, and one certificate
pub file_has_one_report : (file : List ℕ → Option (List ℕ)) (name : List ℕ) (a b : List Report) → HasReport file name a → HasReport file name b → a ≡ b
file_has_one_report file name a b h k = one_report k.bytes a b (subst (λ bytes. MeansReports bytes a) (same_bytes file name h.bytes k.bytes h.holds k.holds) h.means) k.means

pub file_has_one_certificate : (file : List ℕ → Option (List ℕ)) (name : List ℕ) (a b : List CertLine) → HasCertificate file name a → HasCertificate file name b → a ≡ b
file_has_one_certificate file name a b h k = one_certificate k.bytes a b (subst (λ bytes. MeansCertificate bytes a) (same_bytes file name h.bytes k.bytes h.holds k.holds) h.means) k.means
