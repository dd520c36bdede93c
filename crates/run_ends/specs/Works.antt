-- What a command's work can come to, as relations that are put together: files that are read one after the other, and what is made of them.
use Rattle.std.specs.Prelude.{◌≡◌, ◌≤◌, ◌⊎◌, ℕ, List, [], ◌∷◌, length, take, IsTrue, None, Result, Err, ⊤}
use Rattle.std.specs.declared.option.Option.{Option}
use Rattle.shelf_traits.specs.declared.shelf.Way.TheVariants as way
use Rattle.shelf_traits.specs.Shelf.{View}
use Rattle.run_ends.specs.declared.cause.Done.{Done}
use Rattle.run_ends.specs.declared.cause.Cause.{Cause}
use Rattle.run_ends.specs.declared.cause.Cause.TheVariants as cause
use Rattle.shelf_io.specs.Touching.{Opened}

-- what work came to: the slots that it opened in order, what out got, what the file has that it created, the marks that taps were told,
-- the tails that notes is to get past the line, and how it ended
pub record Work : Type 0 where
  pub opened : List Opened
  pub out : List ℕ
  pub made : Option (List ℕ)
  pub marks : List ℕ
  pub tails : List ℕ
  pub end : Result Done Cause

-- work that ended for a cause before anything was written
abbrev pub stopped : List Opened → Cause → Work
stopped opened e = record { opened = opened; out = []; made = None; marks = []; tails = []; end = Err e }

-- a file that is opened for reading, of which so many bytes were taken
abbrev pub read_slot : List ℕ → ℕ → Opened
read_slot name taken = record { way = way.Reads; at = record { name = name; at = taken } }

-- the work with a slot that was opened before it
abbrev pub after : Opened → Work → Work
after slot work = record work { opened = slot ∷ work.opened }

-- a fact of files, where the shelf tells them
abbrev pub Told : View → Type 0 → Type 0
Told v fact = IsTrue v.tells → fact

-- why a file is not opened; over a steady shelf it is not there then
abbrev pub StopsOpen : View → List ℕ → Cause → Type 0
StopsOpen v name cause.ReadFault = IsTrue v.tells → IsTrue v.steady → v.file name ≡ None
StopsOpen v name cause.Memory = ⊤
StopsOpen v name e = ⊥

-- why work stops over a file that is open: a fault of a shelf that is not steady, want of memory, or what the file gives
abbrev pub StopsRead : View → (Cause → Type 0) → Cause → Type 0
StopsRead v gives cause.ReadFault = ¬ IsTrue v.steady
StopsRead v gives cause.Memory = ⊤
StopsRead v gives (cause.Refused r) = Told v (gives (cause.Refused r))
StopsRead v gives (cause.Limit l) = Told v (gives (cause.Limit l))
StopsRead v gives cause.Usage = ⊥
StopsRead v gives cause.WriteFault = ⊥

-- how it went with a file: it was not opened; or it was, and gives the cause to stop; or it is accepted, and the work goes on
abbrev pub Went : {X : Type 0} → View → (name : List ℕ) → (gives : Cause → Type 0) → (accepts : X → Type 0) → (next : X → Work → Type 0) → Work → Type 0
Went {X} v name gives accepts next work =
    ((e : Cause) × (StopsOpen v name e × (work ≡ stopped [] e)))
    ⊎ (((e : Cause) × ((taken : ℕ) × (StopsRead v gives e × (work ≡ stopped (read_slot name taken ∷ []) e))))
    ⊎ ((x : X) × ((taken : ℕ) × ((rest : Work) × (Told v (accepts x) × (next x rest × (work ≡ after (read_slot name taken) rest)))))))

-- One more file is read whole, and accepted with a value with which the work goes on; or the work stops before anything is written.
pub record Reads {X : Type 0} (v : View) (name : List ℕ) (gives : Cause → Type 0) (accepts : X → Type 0) (next : X → Work → Type 0) (work : Work) : Type 0 where
  pub went : Went v name gives accepts next work

-- why a judgement stops the work: want of memory, or what is judged gives the cause
abbrev pub StopsJudge : (Cause → Type 0) → Cause → Type 0
StopsJudge gives cause.Memory = ⊤
StopsJudge gives (cause.Refused r) = gives (cause.Refused r)
StopsJudge gives (cause.Limit l) = gives (cause.Limit l)
StopsJudge gives e = ⊥

-- What was read is judged: it gives the cause for which the work ends, or passes and the work goes on; or memory was wanting.
pub record Judges (gives : Cause → Type 0) (passes : Type 0) (next : Work → Type 0) (work : Work) : Type 0 where
  pub judged : ((e : Cause) × (StopsJudge gives e × (work ≡ stopped [] e))) ⊎ (passes × next work)

-- why writing stops
abbrev pub StopsWrite : Cause → Type 0
StopsWrite cause.WriteFault = ⊤
StopsWrite cause.Memory = ⊤
StopsWrite e = ⊥

-- Out gets a whole text, and the work ends as the text and end allow; or it gets a front of such a text, where writing stopped. A text
-- may be due that no end allows.
abbrev pub Writes : (text_due : List ℕ → Result Done Cause → Type 0) → Work → Type 0
Writes due work =
    ((text : List ℕ) × ((end : Result Done Cause) × (due text end × (work ≡ record { opened = []; out = text; made = None; marks = []; tails = []; end = end }))))
    ⊎ ((text : List ℕ) × ((end : Result Done Cause) × ((k : ℕ) × ((e : Cause) × (due text end × ((k ≤ length text) × (StopsWrite e × (work ≡ record (stopped [] e) { out = take k text }))))))))
    ⊎ (work ≡ stopped [] cause.Memory)

-- Past its end the work's out is handed on: the work is as it came out, or it ends with a write fault.
abbrev pub HandsOn : (Work → Type 0) → Work → Type 0
HandsOn next work = next work ⊎ ((rest : Work) × (next rest × (work ≡ record rest { end = Err cause.WriteFault })))
