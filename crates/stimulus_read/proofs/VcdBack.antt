-- The value change dump of rising instants reads back as them.
use Rattle.std.proofs.Common.{◌≡◌, ℕ, List, [], ◌∷◌, refl, ◌∙◌, ap}
use Rattle.std.specs.Prelude.{Option, Some, None, codes, string_bytes}
use Rattle.wheel_types.specs.declared.channel.Keep.{Keep}
use Rattle.wheel_types.specs.declared.instant.Instant.{Instant}
use Rattle.capture_core.specs.declared.capture.Capture.{Capture}
use Rattle.capture_core.specs.declared.capture.End.TheVariants.{Clean}
use Rattle.capture_core.specs.declared.capture.Names.{Names}
use Rattle.capture_core.specs.declared.capture.Stamp.{Stamp}
use Rattle.capture_core.specs.declared.capture.Watch.{Watch}
use Rattle.vcd_header.specs.declared.signals.Signals.{Signals}
use Rattle.vcd_header.specs.Signals as header
use Rattle.vcd_reader.specs.Dumps.{capture_of, whole}
use Rattle.stimulus_files.specs.Files.{vcd_text}
use Rattle.stimulus_read.specs.ReadBack.{AreDefault, DumpsReadBack}
use Rattle.stimulus_read.proofs.FileStamps.{are_file_stamps}
use Rattle.stimulus_read.proofs.HeadersRead.{names_of, name_if}
use Rattle.stimulus_files.proofs.StampsRead.{stamps_read}
use Rattle.stimulus_read.proofs.VcdRead.{AreFileStamps, vcd_reads}

same_name : (k : Option Keep) (a b : List ℕ) → a ≡ b → header.name_if k a ≡ name_if k b
same_name None a b e = refl
same_name (Some keep) a b e = ap (λ l. Some l) e

abbrev signals : List ℕ → Option (List ℕ) → Option (List ℕ) → Signals
signals a b c = record { crank = a; cam1 = b; cam2 = c }

default_names : (names : Names) (watch : Watch) → AreDefault names → header.wanted_by names watch ≡ names_of watch
default_names names watch d =
    ap (λ l. signals l (header.name_if watch.cam1 (string_bytes names.cam1)) (header.name_if watch.cam2 (string_bytes names.cam2))) d.crank
    ∙ ap (λ o. signals (codes "crank") o (header.name_if watch.cam2 (string_bytes names.cam2))) (same_name watch.cam1 (string_bytes names.cam1) (codes "cam1") d.cam1)
    ∙ ap (signals (codes "crank") (name_if watch.cam1 (codes "cam1"))) (same_name watch.cam2 (string_bytes names.cam2) (codes "cam2") d.cam2)

file_reads : (watch : Watch) (stamps : List Stamp) → AreFileStamps watch stamps → whole (names_of watch) (vcd_text watch stamps) ≡ record { closed = stamps; fault = None }
file_reads watch [] f = absurd f
file_reads watch (s ∷ past) f = vcd_reads watch.crank watch.cam1 watch.cam2 s past f

abbrev captured : List Instant → Capture
captured is = record { instants = is; end = Clean }

pub vcd_back : DumpsReadBack
vcd_back watch names is stamps d rise w small a =
    ap (λ s. capture_of watch (whole s (vcd_text watch stamps))) (default_names names watch d)
    ∙ ap (capture_of watch) (file_reads watch stamps (are_file_stamps watch is stamps small a))
    ∙ ap captured (stamps_read watch is stamps rise w a)
