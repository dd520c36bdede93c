-- How a reader of rows goes on in its bytes.
use Rattle.std.proofs.Common.{◌≡◌, ℕ, List, [], ◌∷◌, ◌++◌, Bool, true, false, refl, sym, ◌∙◌, inl, rules, arith, cond, length, ◌≤◌, Ok, Err, IfOk, IfErr, OnOk}
use Rattle.std.specs.Prelude.{Result}
use Rattle.std.specs.Borrow.{Bor}
use Rattle.csv.specs.Reading.{ExplainsRead, ReadRecord, Reached, Ready, default_config, error_kind, is_bom, is_flexible, stops_reader, strip_bom}
use Rattle.csv.specs.declared.error.Error.{Error}
use Rattle.csv.specs.declared.error.ErrorKind.{ErrorKind}
use Rattle.csv.specs.declared.error.ErrorKind.TheVariants as kind
use Rattle.csv.specs.declared.reader.Reader.{Reader}
use Rattle.csv.proofs.ReadFacts.{rows-end, rows-more}
use Rattle.csv.specs.declared.parser.State.TheVariants as st
use Rattle.csv.specs.declared.reader.Trim.TheVariants as trim
use Rattle.csv_capture.specs.Captures.{rows_of}
use Rattle.csv_capture.specs.RecordsOf.{GoesOn, OnlyStops, StartsAt, Stands, held}
use Rattle.csv_capture.proofs.RecordList.{reached-few, read_so_far}

pub stands_first : (bytes : List ℕ) (a : Reader (Bor (List ℕ))) → StartsAt bytes a → Stands bytes [] a
unfolding Reached
stands_first bytes a s = record {
  flexible = s.flexible;
  trim = s.trim;
  ready = s.ready;
  config = s.config;
  rest = strip_bom bytes;
  source = s.source;
  reached = (sym s.state, refl);
}

pub stands_next : (bytes : List ℕ) (rows : List (List (List ℕ))) (row : List (List ℕ)) (a b : Reader (Bor (List ℕ)))
    → Stands bytes rows a → ReadRecord held a b true row → b.first ≡ true → is_flexible b ≡ is_flexible a → Stands bytes (rows ++ row ∷ []) b
stands_next bytes rows row a b s r first kept =
    let m = rows-more held a b row default_config st.StartRecord (strip_bom bytes) s.rest rows s.config s.source s.reached r in
    record {
      flexible = kept ∙ s.flexible;
      trim = r.3 ∙ s.trim;
      ready = inl first;
      config = r.2 ∙ s.config;
      rest = m.0;
      source = m.1;
      reached = m.2;
    }

-- no record is left
pub stands_last : (bytes : List ℕ) (rows : List (List (List ℕ))) (row : List (List ℕ)) (a b : Reader (Bor (List ℕ)))
    → Stands bytes rows a → ReadRecord held a b false row → rows_of bytes ≡ rows
stands_last bytes rows row a b s r =
    (read_so_far default_config (strip_bom bytes) s.rest a.state rows s.reached).ended (rows-end held a b row default_config s.rest s.config s.source r)

-- what was read is the front of all the rows
pub stands_front : (bytes : List ℕ) (rows : List (List (List ℕ))) (a : Reader (Bor (List ℕ))) → Stands bytes rows a → (more : List (List (List ℕ))) × (rows_of bytes ≡ rows ++ more)
stands_front bytes rows a s =
    let f = read_so_far default_config (strip_bom bytes) s.rest a.state rows s.reached in
    (f.rest, f.all)

-- one row more, or none
pub stands_on : (bytes : List ℕ) (rows : List (List (List ℕ))) (row : List (List ℕ)) (found : Bool) (a b : Reader (Bor (List ℕ)))
    → Stands bytes rows a → ReadRecord held a b found row → b.first ≡ true → is_flexible b ≡ is_flexible a → GoesOn bytes rows row b found
stands_on bytes rows row true a b s r first kept = stands_next bytes rows row a b s r first kept
stands_on bytes rows row false a b s r first kept = stands_last bytes rows row a b s r

-- rows of any length are read, so that an error is want of memory or the source's own
pub only_stops : (bytes : List ℕ) (rows : List (List (List ℕ))) (a b : Reader (Bor (List ℕ))) (k : ErrorKind) → Stands bytes rows a → ExplainsRead held a b false k → stops_reader k ≡ true
only_stops bytes rows a b (kind.Io e) s why = refl
only_stops bytes rows a b kind.OutOfMemory s why = refl
only_stops bytes rows a b (kind.UnequalLengths pos expected len) s why = absurd (let clash = sym s.flexible ∙ why.0 in search rules)
only_stops bytes rows a b (kind.Utf8 pos err) s why = absurd (let clash = why.0 in search rules)
only_stops bytes rows a b (kind.Serialize text) s why = absurd why
only_stops bytes rows a b (kind.Deserialize pos err) s why = absurd why

-- what a read tells, wherever the reader stands
pub rows_read : (result : Result Bool Error) (row : List (List ℕ)) (a b : Reader (Bor (List ℕ)))
    → IfOk result (λ found. a.trim ≡ trim.None → Ready a → ReadRecord held a b found row) → (a.trim ≡ trim.None → OnOk result (b.first ≡ true))
    → OnOk result (is_flexible b ≡ is_flexible a)
    → IfOk result (λ found. (bytes : List ℕ) (rows : List (List (List ℕ))) → Stands bytes rows a → GoesOn bytes rows row b found)
rows_read (Ok found) row a b reads first kept = λ bytes rows s. stands_on bytes rows row found a b s (reads s.trim s.ready) (first s.trim) kept
rows_read (Err e) row a b reads first kept = tt

pub errors_stop : (result : Result Bool Error) (a b : Reader (Bor (List ℕ))) → IfErr result (λ e. Ready a → ExplainsRead held a b false (error_kind e))
    → IfErr result (λ e. OnlyStops a e)
errors_stop (Ok found) a b why = tt
errors_stop (Err e) a b why = λ bytes rows s. only_stops bytes rows a b (error_kind e) s (why s.ready)

-- ---- the number of rows

no_longer : (bytes : List ℕ) → length (strip_bom bytes) ≤ length bytes
unfolding strip_bom
no_longer [] = omega arith
no_longer (a ∷ []) = omega arith
no_longer (a ∷ b ∷ []) = omega arith
no_longer (a ∷ b ∷ c ∷ rest) = by (is_bom a b c)
  where
    by : (t : Bool) → length (cond t rest (a ∷ b ∷ c ∷ rest)) ≤ length (a ∷ b ∷ c ∷ rest)
    by true = omega arith
    by false = omega arith

-- there are no more rows than bytes
pub few_rows : (bytes : List ℕ) (rows : List (List (List ℕ))) (a : Reader (Bor (List ℕ))) → Stands bytes rows a → length rows ≤ length bytes
few_rows bytes rows a s = omega (arith, no_longer bytes, reached-few default_config st.StartRecord a.state (strip_bom bytes) s.rest rows s.reached refl)
