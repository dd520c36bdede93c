-- The lines of a report, and the marks that taps are told past them.
use Rattle.std.specs.Prelude.{◌≡◌, ℕ, ◌+◌, List, [], ◌∷◌, reverse}
use Rattle.wheel_types.specs.declared.parts.WheelParts.{WheelParts}
use Rattle.wheel_types.specs.declared.instant.Instant.{Instant}
use Rattle.wheel_types.specs.declared.verdict.Verdict.{Verdict}
use Rattle.wheel_types.specs.Texts.{line_text}
use Rattle.tap_board.specs.Marks.{mark_of}
use Rattle.run_ends.specs.Lines.{MarkedLine, text_of}
use Rattle.wheelsync.specs.Headline.{IsReport}

-- the line of the instant of this index with this verdict, and the verdict's mark
abbrev pub marked_line : ℕ → Instant → Verdict → MarkedLine
marked_line index i v = record { text = line_text index i v; mark = mark_of v }

-- those of instants and their verdicts, in order, the first of them having this index
abbrev pub lines_of : ℕ → List Instant → List Verdict → List MarkedLine
lines_of index [] vs = []
lines_of index (i ∷ is) [] = []
lines_of index (i ∷ is) (v ∷ vs) = marked_line index i v ∷ lines_of (index + 1) is vs

-- the lines are those of the report of the instants, each with the mark of the verdict that it prints
pub record AreReported (w : WheelParts) (instants : List Instant) (all : List MarkedLine) : Type 0 where
  pub report : IsReport w instants (text_of all)
  pub lines : all ≡ lines_of 1 instants (reverse report.verdicts)
