-- How rows go on from one to the next.
use Rattle.std.proofs.Common.{◌≡◌, ◌∙◌, ℕ, ◌+◌, ℤ, List, [], ◌∷◌, ◌++◌, Bool, true, Option, Some, None, Result, Ok, Err, drop, append_assoc, refl, sym, subst, ap}
use Rattle.std.proofs.lemmas.List.{append-nil}
use Rattle.wheel_types.specs.declared.channel.Channel.TheVariants.{Crank, Cam1, Cam2}
use Rattle.capture_core.specs.declared.capture.CsvFault.{CsvFault}
use Rattle.capture_core.specs.declared.capture.End.TheVariants.{Clean, Csv}
use Rattle.capture_core.specs.declared.capture.Given.{Given}
use Rattle.capture_core.specs.declared.capture.Stamp.{Stamp}
use Rattle.capture_core.specs.declared.capture.Watch.{Watch}
use Rattle.csv_capture.specs.declared.columns.Columns.{Columns}
use Rattle.csv_capture.specs.declared.rows.Rows.{Rows}
use Rattle.std.specs.Prelude.{String, IfOk}
use Rattle.std.specs.declared.alloc.Global.{Global}
use Rattle.capture_core.specs.declared.capture.Column.TheVariants.{Time}
use Rattle.capture_core.specs.declared.capture.CsvFault.TheVariants.{NoColumn}
use Rattle.capture_core.specs.declared.capture.Names.{Names}
use Rattle.csv_capture.specs.Header.{columns_of, time_column}
use Rattle.capture_core.specs.Captures.{at_time, with_given}
use Rattle.csv_capture.specs.Captures.{after_rows, told_below, told_by, told_from, with_row}
use Rattle.capture_core.specs.LevelsOf.{StandsFor, StandsOpen, is_open, time_of_last, watched_by}
use Rattle.csv_capture.specs.Rows.{row_stamp}
use Rattle.csv_capture.specs.RowsOf.{Keeps}
use Rattle.capture_core.specs.Stamps.{last_time, nothing, over, with_level_if}

three_levels : (a b c : Option Bool) (g : Given) → with_level_if Cam2 c (with_level_if Cam1 b (with_level_if Crank a g)) ≡ over (record { crank = a; cam1 = b; cam2 = c }) g
three_levels (Some a) (Some b) (Some c) g = refl
three_levels (Some a) (Some b) None g = refl
three_levels (Some a) None (Some c) g = refl
three_levels (Some a) None None g = refl
three_levels None (Some b) (Some c) g = refl
three_levels None (Some b) None g = refl
three_levels None None (Some c) g = refl
three_levels None None None g = refl

-- the three channels are given what the row says
pub given_all : (now g : Given) → with_level_if Cam2 now.cam2 (with_level_if Cam1 now.cam1 (with_level_if Crank now.crank g)) ≡ over now g
given_all now g = three_levels now.crank now.cam1 now.cam2 g

-- the first stamp
pub begun : (watch : Watch) (told : List Stamp) (time shown : ℤ) (a b : Rows) → shown ≡ time → Keeps watch told a → time_of_last a.levels ≡ None
    → ((closed : List Stamp) → StandsFor a.levels closed → StandsOpen b.levels (record { time = shown; given = nothing }) closed)
    → watched_by b.levels ≡ watched_by a.levels → b.instants.items ≡ a.instants.items → Keeps watch (at_time time told) b
begun watch [] time shown a b e k none opens same rest =
    let first = opens [] k.levels in
    record { levels = record { known = first.known; given = first.given; last = first.last ∙ ap (λ (t : ℤ). Some t) e; is_open = first.is_open }; watched = same ∙ k.watched; instants = rest ∙ k.instants }
begun watch (s ∷ closed) time shown a b e k none opens same rest = cc (none, k.levels.last)

-- the levels of a row
given_more : (watch : Watch) (stamps : List Stamp) (given : Given) (a b : Rows) → Keeps watch stamps a → is_open a.levels ≡ true
    → ((s : Stamp) (closed : List Stamp) → StandsOpen a.levels s closed → StandsOpen b.levels (record { time = s.time; given = over given s.given }) closed)
    → watched_by b.levels ≡ watched_by a.levels → b.instants.items ≡ a.instants.items → Keeps watch (with_given given stamps) b
given_more watch [] given a b k is gives same rest = cc (is, k.levels.shut)
given_more watch (s ∷ closed) given a b k is gives same rest = record { levels = gives s closed k.levels; watched = same ∙ k.watched; instants = rest ∙ k.instants }

-- a row is taken
pub taken : (watch : Watch) (told : List Stamp) (row : Stamp) (shown : ℤ) (a b : Rows) → shown ≡ row.time → Keeps watch (at_time shown told) a → is_open a.levels ≡ true
    → ((s : Stamp) (closed : List Stamp) → StandsOpen a.levels s closed → StandsOpen b.levels (record { time = s.time; given = over row.given s.given }) closed)
    → watched_by b.levels ≡ watched_by a.levels → b.instants.items ≡ a.instants.items → Keeps watch (with_row row told) b
taken watch told row shown a b e k is gives same rest =
    given_more watch (at_time row.time told) row.given a b (subst (λ (t : ℤ). Keeps watch (at_time t told) a) e k) is gives same rest

-- so far, rows told these stamps
abbrev pub Walks : Columns → ℕ → List (List (List ℕ)) → List Stamp → Type 0
Walks columns number seen told = (more : List (List (List ℕ))) → after_rows columns 2 [] (seen ++ more) ≡ after_rows columns number told more

-- no row is left
pub walks_clean : (columns : Columns) (number : ℕ) (header : List (List ℕ)) (seen rows : List (List (List ℕ))) (told : List Stamp) → Walks columns number seen told
    → rows ≡ header ∷ seen → after_rows columns 2 [] (drop 1 rows) ≡ record { stamps = told; end = Clean }
walks_clean columns number header seen rows told walks e =
    ap (λ (x : List (List (List ℕ))). after_rows columns 2 [] (drop 1 x)) e ∙ ap (after_rows columns 2 []) (sym (append-nil seen)) ∙ walks []

-- the next row has a fault
pub walks_refused : (columns : Columns) (number : ℕ) (header row : List (List ℕ)) (seen rows more : List (List (List ℕ))) (told : List Stamp) (fault : CsvFault) → Walks columns number seen told
    → rows ≡ header ∷ (seen ++ row ∷ []) ++ more → row_stamp columns number (last_time told) row ≡ Err fault
    → after_rows columns 2 [] (drop 1 rows) ≡ record { stamps = told; end = Csv fault }
walks_refused columns number header row seen rows more told fault walks e bad =
    ap (λ (x : List (List (List ℕ))). after_rows columns 2 [] (drop 1 x)) e
    ∙ ap (after_rows columns 2 []) (append_assoc seen (row ∷ []) more) ∙ walks (row ∷ more)
    ∙ ap (told_from told (λ s. after_rows columns (number + 1) (with_row s told) more)) bad

-- the next row is taken
pub walks_on : (columns : Columns) (number : ℕ) (row : List (List ℕ)) (seen : List (List (List ℕ))) (told : List Stamp) (s : Stamp) → Walks columns number seen told
    → row_stamp columns number (last_time told) row ≡ Ok s → Walks columns (number + 1) (seen ++ row ∷ []) (with_row s told)
walks_on columns number row seen told s walks good = λ more.
    ap (after_rows columns 2 []) (append_assoc seen (row ∷ []) more) ∙ walks (row ∷ more)
    ∙ ap (told_from told (λ x. after_rows columns (number + 1) (with_row x told) more)) good

-- what is told without a header, by a header with a fault, and below one
no_time : (name : Option (String Global)) → time_column name [] ≡ Err (NoColumn Time)
no_time None = refl
no_time (Some name) = refl

pub told_none : (names : Names) (watch : Watch) (rows : List (List (List ℕ))) → rows ≡ [] → told_by names watch rows ≡ record { stamps = []; end = Csv (NoColumn Time) }
told_none names watch rows e = rw (e, no_time names.time) refl

pub told_refused : (names : Names) (watch : Watch) (header : List (List ℕ)) (rows more : List (List (List ℕ))) (fault : CsvFault) → rows ≡ header ∷ more
    → columns_of names watch header ≡ Err fault → told_by names watch rows ≡ record { stamps = []; end = Csv fault }
told_refused names watch header rows more fault e bad = ap (told_by names watch) e ∙ ap (λ (x : Result Columns CsvFault). told_below x more) bad

pub told_rows : (names : Names) (watch : Watch) (header : List (List ℕ)) (rows more : List (List (List ℕ))) (columns : Columns) → rows ≡ header ∷ more
    → columns_of names watch header ≡ Ok columns → told_by names watch rows ≡ after_rows columns 2 [] (drop 1 rows)
told_rows names watch header rows more columns e good =
    ap (told_by names watch) e ∙ ap (λ (x : Result Columns CsvFault). told_below x more) good ∙ ap (λ (x : List (List (List ℕ))). after_rows columns 2 [] (drop 1 x)) (sym e)

pub if_ok : {T E : Type 0} (P Q : T → Type 0) (r : Result T E) → IfOk r P → ((x : T) → P x → Q x) → IfOk r Q
if_ok P Q (Ok x) h f = f x h
if_ok P Q (Err e) h f = tt
