-- The capture of a file depends on the texts of the names alone.
use Rattle.std.proofs.Common.{◌≡◌, ℕ, inl, inr, List, [], ◌∷◌, if◌then◌else◌, Option, Some, None, option_map, String, Global, string_bytes, Result, Ok, Err, refl, sym, ◌∙◌, ap, subst}
use Rattle.capture_core.specs.declared.capture.Names.{Names}
use Rattle.capture_core.specs.declared.capture.Watch.{Watch}
use Rattle.capture_core.specs.declared.capture.Capture.{Capture}
use Rattle.capture_core.specs.Captures.{capture_of}
use Rattle.csv_capture.specs.Captures.{csv_capture, header_of, rows_of, told_below}
use Rattle.csv_capture.specs.Header.{columns_of, column_named, time_column}
use Rattle.vcd_reader.specs.Dumps.{vcd_capture, whole, capture_of as capture_of_dump}
use Rattle.vcd_header.specs.Signals.{wanted_by}
use Rattle.std.specs.Prelude.{drop}
use Rattle.wheel_types.specs.declared.parts.WheelParts.{WheelParts}
use Rattle.capture_file.specs.Forms.{file_capture, is_dump}
use Rattle.run_ends.specs.declared.cause.Cause.{Cause}
use Rattle.run_ends.specs.declared.cause.Done.TheVariants.{Whole}
use Rattle.run_files.specs.Causes.{ended_by}
use Rattle.named_captures.specs.Captures.{HasNames, IsCapture, HasNamedCapture, HasCleanCapture, CleanGives, watch_of}
use Rattle.run_files.proofs.Ready.{same_bytes, file_gives_none}
use Rattle.command_words.specs.Options.{Options}
use Rattle.capture_core.specs.declared.capture.Column.TheVariants.{Time}
use Rattle.capture_core.specs.declared.capture.CsvFault.{CsvFault}
use Rattle.capture_core.specs.declared.capture.CsvFault.TheVariants.{NoColumn}

-- the column of times by the text of its name
time_by : Option (List ℕ) → List (List ℕ) → Result ℕ CsvFault
time_by None [] = Err (NoColumn Time)
time_by None (field ∷ fields) = Ok 0
time_by (Some name) header = column_named Time name header

time_by-name : (name : Option (String Global)) (header : List (List ℕ)) → time_column name header ≡ time_by (option_map string_bytes name) header
unfolding time_by
time_by-name None [] = refl
time_by-name None (field ∷ fields) = refl
time_by-name (Some name) header = refl

same_time : (a b : Option (String Global)) (header : List (List ℕ)) → option_map string_bytes a ≡ option_map string_bytes b → time_column a header ≡ time_column b header
same_time a b header e = time_by-name a header ∙ ap (λ n. time_by n header) e ∙ sym (time_by-name b header)

same_columns : (o : Options) (a b : Names) (watch : Watch) (header : List (List ℕ)) → HasNames o a → HasNames o b → columns_of a watch header ≡ columns_of b watch header
same_columns o a b watch header h k = rw (same_time a.time b.time header (h.time ∙ sym k.time), h.crank, h.cam1, h.cam2, k.crank, k.cam1, k.cam2) refl

same_rows : (o : Options) (a b : Names) (watch : Watch) (bytes : List ℕ) → HasNames o a → HasNames o b → csv_capture a watch bytes ≡ csv_capture b watch bytes
same_rows o a b watch bytes h k =
    ap (λ columns. capture_of watch (told_below columns (drop 1 (rows_of bytes)))) (same_columns o a b watch (header_of (rows_of bytes)) h k)

same_wanted : (o : Options) (a b : Names) (watch : Watch) → HasNames o a → HasNames o b → wanted_by a watch ≡ wanted_by b watch
same_wanted o a b watch h k = rw (h.crank, h.cam1, h.cam2, k.crank, k.cam1, k.cam2) refl

same_dump : (o : Options) (a b : Names) (watch : Watch) (bytes : List ℕ) → HasNames o a → HasNames o b → vcd_capture a watch bytes ≡ vcd_capture b watch bytes
same_dump o a b watch bytes h k = ap (λ wanted. capture_of_dump watch (whole wanted bytes)) (same_wanted o a b watch h k)

pub same_capture : (o : Options) (a b : Names) (watch : Watch) (bytes : List ℕ) → HasNames o a → HasNames o b → file_capture a watch bytes ≡ file_capture b watch bytes
same_capture o a b watch bytes h k =
    ap (λ (c : Capture). if is_dump bytes then c else csv_capture a watch bytes) (same_dump o a b watch bytes h k)
    ∙ ap (λ (c : Capture). if is_dump bytes then vcd_capture b watch bytes else c) (same_rows o a b watch bytes h k)

-- a file has one capture
pub one_capture : (w : WheelParts) (o : Options) (bytes : List ℕ) (a b : Capture) → IsCapture w o bytes a → IsCapture w o bytes b → a ≡ b
one_capture w o bytes a b h k = h.is ∙ same_capture o h.names k.names (watch_of w o) bytes h.named k.named ∙ sym k.is

pub file_has_one_capture : (file : List ℕ → Option (List ℕ)) (name : List ℕ) (w : WheelParts) (o : Options) (c d : Capture) → HasNamedCapture file name w o c → HasNamedCapture file name w o d → c ≡ d
file_has_one_capture file name w o c d h k =
    one_capture w o k.bytes c d (subst (λ b. IsCapture w o b c) (same_bytes file name h.bytes k.bytes h.holds k.holds) h.read) k.read

-- a capture that ends clean gives no cause
pub clean_gives_none : (file : List ℕ → Option (List ℕ)) (name : List ℕ) (w : WheelParts) (o : Options) (c : Capture) → HasCleanCapture file name w o c → (e : Cause) → CleanGives file name w o e → ⊥
clean_gives_none file name w o c h e (inl g) = file_gives_none file name h.read.bytes h.read.holds e g
clean_gives_none file name w o c h e (inr (d, (k, is))) =
    let same : d ≡ c = file_has_one_capture file name w o d c k h.read in
    let ends : Ok Whole ≡ Err e = ap ended_by (sym h.clean) ∙ ap (λ (x : Capture). ended_by x.end) (sym same) ∙ is in
    absurd (cc)
