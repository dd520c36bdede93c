-- The columns of a table's header, and the stamp that each of its rows tells.
use Rattle.std.proofs.Common.{◌≡◌, ℕ}
use Rattle.std.proofs.Common.{refl}
use Rattle.std.specs.Prelude.{Option, Some, None, Ok, codes}
use Rattle.csv_capture.specs.declared.columns.Columns.{Columns}
use Rattle.csv_capture.specs.Header.{all_columns, cam_column, column_named, columns_of}
use Rattle.wheel_types.specs.declared.channel.Keep.{Keep}
use Rattle.capture_core.specs.declared.capture.Column.TheVariants as column
use Rattle.capture_core.specs.declared.capture.Names.{Names}
use Rattle.capture_core.specs.declared.capture.Watch.{Watch}
use Rattle.stimulus_read.specs.ReadBack.{AreDefault}
use Rattle.stimulus_read.proofs.TableRecords.{header_fields}

-- ---- the header

-- where a column stands
abbrev place_if : Option Keep → ℕ → Option ℕ
place_if None at = None
place_if (Some keep) at = Some at

abbrev place_after : Option Keep → Option Keep → Option ℕ
place_after None b = place_if b 2
place_after (Some a) b = place_if b 3

abbrev pub columns_with : Watch → Columns
columns_with watch = record { time = 0; crank = 1; cam1 = place_if watch.cam1 2; cam2 = place_after watch.cam1 watch.cam2 }

pub header_columns : (names : Names) (watch : Watch) → AreDefault names
    → columns_of names watch (header_fields watch) ≡ Ok (columns_with watch)
header_columns names watch d =
    rw (d.time, d.crank, d.cam1, d.cam2) (by watch.cam1 watch.cam2)
  where
    by : (a b : Option Keep)
        → all_columns (Ok 0)
        (column_named column.Crank (codes "crank") (header_fields (record { crank = watch.crank; cam1 = a; cam2 = b })))
        (cam_column column.Cam1 a (codes "cam1") (header_fields (record { crank = watch.crank; cam1 = a; cam2 = b })))
        (cam_column column.Cam2 b (codes "cam2") (header_fields (record { crank = watch.crank; cam1 = a; cam2 = b })))
        ≡ Ok (columns_with (record { crank = watch.crank; cam1 = a; cam2 = b }))
    by None None = refl
    by None (Some b) = refl
    by (Some a) None = refl
    by (Some a) (Some b) = refl
