-- A table of comma-separated values reads back.
use Rattle.std.proofs.Common.{◌≡◌, List, [], ◌∷◌, sym, ◌∙◌, ap, append-nil, Ok}
use Rattle.csv_capture.specs.Captures.{told_below, told_by}
use Rattle.wheel_types.specs.declared.instant.Instant.{Instant}
use Rattle.capture_core.specs.declared.capture.Capture.{Capture}
use Rattle.capture_core.specs.declared.capture.End.TheVariants.{Clean}
use Rattle.capture_core.specs.declared.capture.Names.{Names}
use Rattle.capture_core.specs.declared.capture.Stamp.{Stamp}
use Rattle.capture_core.specs.declared.capture.Watch.{Watch}
use Rattle.capture_core.specs.Captures.{Told, capture_of}
use Rattle.stimulus_files.proofs.StampsRead.{stamps_read}
use Rattle.stimulus_read.specs.ReadBack.{AreDefault, TablesReadBack}
use Rattle.stimulus_read.proofs.TableColumns.{columns_with, header_columns}
use Rattle.stimulus_read.proofs.TableRecords.{header_fields, row_list, table_records}
use Rattle.stimulus_read.proofs.TableRows.{walks}
use Rattle.stimulus_read.proofs.TableStamps.{AreTable, are_table, instants_rows, rows_of}

abbrev told : List Stamp → Told
told stamps = record { stamps = stamps; end = Clean }

rows_tell : (names : Names) (watch : Watch) (stamps : List Stamp) → AreDefault names → AreTable watch stamps
    → told_by names watch (header_fields watch ∷ row_list stamps) ≡ told (rows_of stamps)
rows_tell names watch stamps d h =
    let w = walks watch stamps h in
    ap (λ c. told_below c (row_list stamps)) (header_columns names watch d)
    ∙ ap (λ rows. told_below (Ok (columns_with watch)) rows) (sym (append-nil (row_list stamps))) ∙ w.1 []

abbrev captured : List Instant → Capture
captured is = record { instants = is; end = Clean }

pub table_back : TablesReadBack
table_back watch names is stamps d rise w small a =
    let h = are_table watch is stamps small a in
    ap (λ rows. capture_of watch (told_by names watch rows)) (table_records watch stamps h)
    ∙ ap (capture_of watch) (rows_tell names watch stamps d h)
    ∙ ap captured (instants_rows watch stamps ∙ stamps_read watch is stamps rise w a)
