-- The records of a table's text are its header and its rows.
use Rattle.std.proofs.Common.{◌≡◌, ℕ, ◌≤◌, ◌^◌, List, [], ◌∷◌, ◌++◌, refl, sym, ◌∙◌, ap, subst, append_assoc, append-nil, ℤ, pos}
use Rattle.std.specs.Prelude.{Option, Some, None, codes, unsigned_abs}
use Rattle.csv.specs.Machine.{next_record}
use Rattle.csv.specs.Reading.{Reached, default_config, strip_bom}
use Rattle.csv.specs.declared.parser.State.TheVariants.{StartRecord}
use Rattle.csv_capture.specs.Captures as capture
use Rattle.csv_capture.proofs.RecordList.{read_so_far}
use Rattle.wheel_types.specs.declared.channel.Keep.{Keep}
use Rattle.capture_core.specs.declared.capture.Stamp.{Stamp}
use Rattle.capture_core.specs.declared.capture.Watch.{Watch}
use Rattle.capture_core.specs.Stamps.{known_after}
use Rattle.stimulus_files.specs.Files.{csv_header, csv_text, row_fields, row_text, rows_text}
use Rattle.stimulus_read.proofs.RowsRead.{row_reads}
use Rattle.stimulus_read.proofs.TableStamps.{AreTable}

-- the names in the header
abbrev pub name_if : Option Keep → List ℕ → List (List ℕ)
name_if None name = []
name_if (Some keep) name = name ∷ []

abbrev pub header_fields : Watch → List (List ℕ)
header_fields watch = codes "time" ∷ codes "crank" ∷ (name_if watch.cam1 (codes "cam1") ++ name_if watch.cam2 (codes "cam2"))

-- the rows of stamps, the first one first
abbrev pub row_list : List Stamp → List (List (List ℕ))
row_list [] = []
row_list (s ∷ past) = row_list past ++ row_fields s.time (known_after (s ∷ past)) ∷ []

-- these records take a text to what is left of it
abbrev Reads : List ℕ → List (List (List ℕ)) → List ℕ → Type 0
Reads xs rows ys = Reached default_config StartRecord xs rows StartRecord ys

reads_on : (xs ys zs : List ℕ) (rows more : List (List (List ℕ))) → Reads xs rows ys → Reads ys more zs → Reads xs (rows ++ more) zs
unfolding Reached
reads_on xs ys zs rows more h k = from rows StartRecord xs h
  where
    from : (rows : List (List (List ℕ))) (s : _) (xs : List ℕ) → Reached default_config s xs rows StartRecord ys
        → Reached default_config s xs (rows ++ more) StartRecord zs
    from [] s xs h =
        subst (λ q. Reached default_config q xs more StartRecord zs) (sym h.0)
        (subst (λ v. Reached default_config StartRecord v more StartRecord zs) (sym h.1) k)
    from (r ∷ rows) s xs h = (h.0, h.1, h.2, from rows h.0.1 h.0.2 h.3)

none_reads : (ys : List ℕ) → Reads ys [] ys
unfolding Reached
none_reads ys = (refl, refl)

one_reads : (xs ys : List ℕ) (fields : List (List ℕ)) → next_record default_config StartRecord [] [] xs ≡ Some (fields, StartRecord, ys)
    → Reads xs (fields ∷ []) ys
unfolding Reached
one_reads xs ys fields h = ((fields, StartRecord, ys), h, refl, (refl, refl))

header_reads : (watch : Watch) (rest : List ℕ)
    → next_record default_config StartRecord [] [] (csv_header watch ++ rest) ≡ Some (header_fields watch, StartRecord, rest)
unfolding next_record
header_reads watch rest = by watch.cam1 watch.cam2
  where
    by : (a b : Option Keep)
        → next_record default_config StartRecord [] [] (csv_header (record { crank = watch.crank; cam1 = a; cam2 = b }) ++ rest)
        ≡ Some (header_fields (record { crank = watch.crank; cam1 = a; cam2 = b }), StartRecord, rest)
    by None None = refl
    by None (Some b) = refl
    by (Some a) None = refl
    by (Some a) (Some b) = refl

small_time : (t : ℤ) (n : ℕ) → t ≡ pos n → n ≤ 10 ^ 24 → unsigned_abs t ≤ 10 ^ 24
small_time t n e h = subst (λ z. unsigned_abs z ≤ 10 ^ 24) (sym e) h

rows_read : (watch : Watch) (stamps : List Stamp) (rest : List ℕ) → AreTable watch stamps
    → Reads (rows_text stamps ++ rest) (row_list stamps) rest
rows_read watch [] rest h = none_reads rest
rows_read watch (s ∷ past) rest h =
    let row = row_text s.time (known_after (s ∷ past)) in
    let one =
    one_reads (row ++ rest) rest (row_fields s.time (known_after (s ∷ past)))
    (row_reads s.time (known_after (s ∷ past)) rest (small_time s.time h.0.0 h.0.1 h.0.2)) in
    subst (λ text. Reads text (row_list (s ∷ past)) rest) (sym (append_assoc (rows_text past) row rest))
    (reads_on (rows_text past ++ (row ++ rest)) (row ++ rest) rest (row_list past) (row_fields s.time (known_after (s ∷ past)) ∷ [])
    (rows_read watch past (row ++ rest) h.3) one)

no_record : next_record default_config StartRecord [] [] [] ≡ None
unfolding next_record
no_record = refl

no_mark : (watch : Watch) (stamps : List Stamp) → strip_bom (csv_text watch stamps) ≡ csv_text watch stamps
unfolding strip_bom
no_mark watch stamps = refl

-- the records of the whole text
pub table_records : (watch : Watch) (stamps : List Stamp) → AreTable watch stamps
    → capture.rows_of (csv_text watch stamps) ≡ header_fields watch ∷ row_list stamps
table_records watch stamps h =
    let text = csv_text watch stamps in
    let rows = subst (λ xs. Reads xs (row_list stamps) []) (append-nil (rows_text stamps)) (rows_read watch stamps [] h) in
    let head = one_reads text (rows_text stamps) (header_fields watch) (header_reads watch (rows_text stamps)) in
    let all = reads_on text (rows_text stamps) [] (header_fields watch ∷ []) (row_list stamps) head rows in
    ap (λ xs. Rattle.csv.specs.Reading.records default_config xs) (no_mark watch stamps)
    ∙ (read_so_far default_config text [] StartRecord (header_fields watch ∷ row_list stamps) all).ended no_record
