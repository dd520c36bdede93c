-- What the three taps mean.
use Rattle.std.specs.Prelude.{ℕ, ◌+◌, false, leb, List, [], ◌++◌, length, codes, decimal, count_by, position, Some, None}
use Rattle.std.specs.declared.option.Option.{Option}
use Rattle.tap_board.specs.Marks.{is_at, is_open, is_lost}
use Rattle.tap_board.specs.Meanings.{Meaning}

-- the line that says how many reports were at, open and lost
abbrev pub tally_text : ℕ → ℕ → ℕ → List ℕ
tally_text at opened lost =
    codes "tally at " ++ decimal at ++ codes " open " ++ decimal opened ++ codes " lost " ++ decimal lost ++ codes "\n"

-- a tally counts the marks, and never stops
abbrev pub tally_meaning : List ℕ → Meaning
tally_meaning marks = record {
  marks = marks;
  tail = λ all. tally_text (count_by is_at all) (count_by is_open all) (count_by is_lost all);
  stops = λ all. false;
}

-- the line that says the number, from 1, of the first report that was at, by that report's index from 0 if there is one
abbrev pub first_text : Option ℕ → List ℕ
first_text (Some index) = codes "first at " ++ decimal (index + 1) ++ codes "\n"
first_text None = codes "first none\n"

-- a first fix says where the first mark of an at stands, and never stops
abbrev pub first_fix_meaning : List ℕ → Meaning
first_fix_meaning marks = record { marks = marks; tail = λ all. first_text (position is_at all); stops = λ all. false }

-- it has no text, and stops at every list of at least so many marks
abbrev pub stop_after_meaning : ℕ → List ℕ → Meaning
stop_after_meaning limit marks = record { marks = marks; tail = λ all. []; stops = λ all. leb limit (length all) }
