-- Where a reader of rows stands in its bytes.
use Rattle.std.specs.Prelude.{◌≡◌, ℕ, true, false, List, [], ◌∷◌, ◌++◌, Bool, Option, Some}
use Rattle.std.specs.Borrow.{Bor}
use Rattle.csv.specs.Reading.{Reached, Ready, default_config, source_of, strip_bom, error_kind, is_flexible, reader_config, reader_state, reader_trim, stops_reader}
use Rattle.csv.specs.Records.{fields_of}
use Rattle.csv.specs.declared.error.Error.{Error}
use Rattle.csv.specs.declared.parser.State.TheVariants as st
use Rattle.csv.specs.declared.reader.Reader.{Reader}
use Rattle.csv.specs.declared.reader.Trim.TheVariants as trim
use Rattle.csv_capture.specs.Captures.{rows_of}
use Rattle.csv_capture.specs.declared.records.Records.{Records}

-- the bytes that a slice holds
abbrev pub held : Bor (List ℕ) → Option (List ℕ)
held s = Some s.now

-- a reader at the start of these bytes, which reads rows of any length
pub record StartsAt (bytes : List ℕ) (reader : Reader (Bor (List ℕ))) : Type 0 where
  pub flexible : is_flexible reader ≡ true
  pub trim : reader_trim reader ≡ trim.None
  pub ready : Ready reader
  pub config : reader_config reader ≡ default_config
  pub source : source_of held reader ≡ Some (strip_bom bytes)
  pub state : reader_state reader ≡ st.StartRecord

-- these rows were read, and the reader goes on behind them, with rows of any length
pub record Stands (bytes : List ℕ) (rows : List (List (List ℕ))) (reader : Reader (Bor (List ℕ))) : Type 0 where
  pub flexible : is_flexible reader ≡ true
  pub trim : reader_trim reader ≡ trim.None
  pub ready : Ready reader
  pub config : reader_config reader ≡ default_config
  pub rest : List ℕ
  pub source : source_of held reader ≡ Some rest
  pub reached : Reached default_config st.StartRecord (strip_bom bytes) rows (reader_state reader) rest

-- these rows of the bytes were read
abbrev pub HasRead : List ℕ → List (List (List ℕ)) → Records → Type 0
HasRead bytes rows records = Stands bytes rows records.reader

-- the row that was read last
abbrev pub row_of : Records → List (List ℕ)
row_of records = fields_of records.row

-- what reading on tells: one more row, or that there is none
abbrev pub GoesOn : List ℕ → List (List (List ℕ)) → List (List ℕ) → Reader (Bor (List ℕ)) → Bool → Type 0
GoesOn bytes rows row reader true = Stands bytes (rows ++ row ∷ []) reader
GoesOn bytes rows row reader false = rows_of bytes ≡ rows

abbrev pub ReadsOn : List ℕ → List (List (List ℕ)) → Records → Bool → Type 0
ReadsOn bytes rows records found = GoesOn bytes rows (row_of records) records.reader found

-- where a reader of these bytes stands, the error is want of memory or the source's own
abbrev pub OnlyStops : Reader (Bor (List ℕ)) → Error → Type 0
OnlyStops reader e = (bytes : List ℕ) (rows : List (List (List ℕ))) → Stands bytes rows reader → stops_reader (error_kind e) ≡ true
