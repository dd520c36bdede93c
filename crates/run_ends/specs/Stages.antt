-- Further parts of work: a file that is created, a capture that is opened before it is taken, and two texts side by side.
use Rattle.std.specs.Prelude.{◌≡◌, ◌≤◌, ◌⊎◌, ℕ, List, [], ◌∷◌, ◌++◌, length, take, map, flat_map, unwrap_or, Some, Result, Ok, Err}
use Rattle.shelf_traits.specs.declared.shelf.Way.TheVariants as way
use Rattle.shelf_traits.specs.Shelf.{View}
use Rattle.run_ends.specs.declared.cause.Done.{Done}
use Rattle.run_ends.specs.declared.cause.Done.TheVariants as done
use Rattle.run_ends.specs.declared.cause.Cause.{Cause}
use Rattle.run_ends.specs.declared.cause.Cause.TheVariants as cause
use Rattle.shelf_io.specs.Touching.{Opened}
use Rattle.run_ends.specs.Lines.{IsShort}
use Rattle.run_ends.specs.Works.{Work, Told, StopsOpen, StopsRead, StopsWrite, stopped, read_slot, after}

-- a file that is created; no byte is read from it
abbrev pub write_slot : List ℕ → Opened
write_slot name = record { way = way.Writes; at = record { name = name; at = 0 } }

-- what comes of a text that is made for a file: the file is created and gets it whole; or it gets a front of it, where writing stopped; or
-- it is not created, and no file is changed
abbrev pub HasMade : (name text : List ℕ) → Work → Type 0
HasMade name text work =
    (work ≡ record { opened = write_slot name ∷ []; out = []; made = Some text; marks = []; tails = []; end = Ok done.Whole })
    ⊎ (((e : Cause) × ((k : ℕ) × (StopsWrite e × ((k ≤ length text) × (work ≡ record (stopped (write_slot name ∷ []) e) { made = Some (take k text) })))))
    ⊎ ((e : Cause) × (StopsWrite e × (work ≡ stopped [] e))))

-- A text that is due is made, and only then its file is created. Out gets nothing.
pub record Makes (name : List ℕ) (due : List ℕ → Type 0) (work : Work) : Type 0 where
  pub text : List ℕ
  pub is_due : due text
  pub made : HasMade name text work

-- work past the opening of a file, of which so many bytes are taken by the end
abbrev pub Past : (name : List ℕ) → (Work → Type 0) → Work → Type 0
Past name next work = (taken : ℕ) × ((rest : Work) × (next rest × (work ≡ after (read_slot name taken) rest)))

-- A file is opened, and the work goes on past that; or it is not opened, and the work stops.
pub record Opens (v : View) (name : List ℕ) (next : Work → Type 0) (work : Work) : Type 0 where
  pub went : ((e : Cause) × (StopsOpen v name e × (work ≡ stopped [] e))) ⊎ Past name next work

-- the end of work whose taps wanted memory as they were closed: that, but where a write failed before
abbrev pub unclosed : Result Done Cause → Result Done Cause
unclosed (Err cause.WriteFault) = Err cause.WriteFault
unclosed end = Err cause.Memory

-- what closing the taps makes of work: its tails are those past the marks that were told, but at want of memory; or closing wanted memory,
-- and there are none
abbrev pub IsClosed : (tails : List ℕ → List ℕ) → (rest work : Work) → Type 0
IsClosed tails rest work =
    ((¬ (rest.end ≡ Err cause.Memory)) × (work ≡ record rest { tails = tails rest.marks }))
    ⊎ (work ≡ record rest { tails = []; end = unclosed rest.end })

-- Taps whose tails are these past any marks are told marks by the work, and are closed at its end, however it ends.
pub record Closes (tails : List ℕ → List ℕ) (next : Work → Type 0) (work : Work) : Type 0 where
  pub rest : Work
  pub went : next rest
  pub closed : IsClosed tails rest work

-- The written file is created, and is there from here on, empty where nothing is put; or it is not created, and the work stops.
pub record Creates (name : List ℕ) (next : Work → Type 0) (work : Work) : Type 0 where
  pub went : ((e : Cause) × (StopsWrite e × (work ≡ stopped [] e)))
      ⊎ ((rest : Work) × (next rest × (work ≡ record (after (write_slot name) rest) { made = Some (unwrap_or rest.made []) })))

-- The file that is open is taken whole, and accepted with a value; or it stops the work before anything is written.
pub record Takes {X : Type 0} (v : View) (gives : Cause → Type 0) (accepts : X → Type 0) (next : X → Work → Type 0) (work : Work) : Type 0 where
  pub went : ((e : Cause) × (StopsRead v gives e × (work ≡ stopped [] e)))
      ⊎ ((x : X) × (Told v (accepts x) × next x work))

-- a line of the one text, its fellow of the other, and the mark that taps are told past both
pub record Fellows : Type 0 where
  pub line : List ℕ
  pub beside : List ℕ
  pub mark : ℕ

-- the text of the lines
abbrev pub lines_text : List Fellows → List ℕ
lines_text = flat_map (λ f. f.line)

-- the text of their fellows
abbrev pub beside_text : List Fellows → List ℕ
beside_text = flat_map (λ f. f.beside)

-- the marks of both
abbrev pub marks_beside : List Fellows → List ℕ
marks_beside = map (λ f. f.mark)

-- what the two texts got of a line and its fellow, where writing stopped for a cause: a front of the line alone, or the line whole and a
-- front of its fellow
abbrev pub AreCut : Cause → Fellows → (line beside : List ℕ) → Type 0
AreCut e f line beside =
    ((k : ℕ) × (IsShort e k f.line × ((line ≡ take k f.line) × (beside ≡ []))))
    ⊎ ((line ≡ f.line) × ((k : ℕ) × (IsShort e k f.beside × (beside ≡ take k f.beside))))

-- two texts side by side that stopped within a line or its fellow; at a write fault the marks of those before them were told
pub record Stopped (due : List Fellows → Result Done Cause → Type 0) (work : Work) : Type 0 where
  pub before : List Fellows
  pub cut : Fellows
  pub rest : List Fellows
  pub end : Result Done Cause
  pub is_due : due (before ++ cut ∷ rest) end
  pub why : Cause
  pub stops : StopsWrite why
  pub line : List ℕ
  pub beside : List ℕ
  pub are_cut : AreCut why cut line beside
  pub marks : List ℕ
  pub told : why ≡ cause.WriteFault → marks ≡ marks_beside before
  pub came : work ≡ record (stopped [] why) { out = lines_text before ++ line; made = Some (beside_text before ++ beside); marks = marks }

-- Out gets the lines, and the created file their fellows, each after its line; taps are told the mark of each past its fellow; and the
-- work ends as they and the end allow. Or writing stopped within a line or its fellow, or telling past both.
pub record WritesBoth (due : List Fellows → Result Done Cause → Type 0) (work : Work) : Type 0 where
  pub went : ((all : List Fellows) × ((end : Result Done Cause) × (due all end × (work
      ≡ record { opened = []; out = lines_text all; made = Some (beside_text all); marks = marks_beside all; tails = []; end = end }))))
      ⊎ Stopped due work
