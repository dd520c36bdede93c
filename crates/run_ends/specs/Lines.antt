-- A text that is written line by line, while taps are told a mark past each line.
use Rattle.std.specs.Prelude.{◌≡◌, ◌<◌, ◌⊎◌, ℕ, List, [], ◌∷◌, ◌++◌, length, take, map, flat_map, None, Result}
use Rattle.run_ends.specs.declared.cause.Done.{Done}
use Rattle.run_ends.specs.declared.cause.Cause.{Cause}
use Rattle.run_ends.specs.declared.cause.Cause.TheVariants as cause
use Rattle.run_ends.specs.Works.{Work, StopsWrite, stopped}

-- at a write fault not all of a text went out
abbrev pub IsShort : Cause → ℕ → List ℕ → Type 0
IsShort e k text = e ≡ cause.WriteFault → k < length text

-- a line of a text, and the mark that taps are told past it
pub record MarkedLine : Type 0 where
  pub text : List ℕ
  pub mark : ℕ

-- the text of the lines
abbrev pub text_of : List MarkedLine → List ℕ
text_of = flat_map (λ l. l.text)

-- their marks
abbrev pub marks_of : List MarkedLine → List ℕ
marks_of = map (λ l. l.mark)

-- a text that stopped within a line; at a write fault the marks of the lines before it were told
pub record StoppedWithin (due : List MarkedLine → Result Done Cause → Type 0) (work : Work) : Type 0 where
  pub before : List MarkedLine
  pub cut : MarkedLine
  pub rest : List MarkedLine
  pub end : Result Done Cause
  pub is_due : due (before ++ cut ∷ rest) end
  pub why : Cause
  pub stops : StopsWrite why
  pub got : ℕ
  pub short : IsShort why got cut.text
  pub marks : List ℕ
  pub told : why ≡ cause.WriteFault → marks ≡ marks_of before
  pub came : work ≡ record (stopped [] why) { out = text_of before ++ take got cut.text; marks = marks }

-- Out gets the lines, taps are told the mark of each past it, and the work ends as they and the end allow. Or writing stopped within a line,
-- or telling past it.
pub record WritesLines (due : List MarkedLine → Result Done Cause → Type 0) (work : Work) : Type 0 where
  pub went : ((all : List MarkedLine) × ((end : Result Done Cause) × (due all end
      × (work ≡ record { opened = []; out = text_of all; made = None; marks = marks_of all; tails = []; end = end }))))
      ⊎ StoppedWithin due work
