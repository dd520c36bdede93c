-- The columns of a row, and the phases that they lead to.
--
-- A window is in phase 0 before its first crank edge, in phase 1 after it, in phase 2 after two or more. Phases 3 and 4 stand after the
-- time class of a gap, from phase 1 and from phase 2; phase 5 after a ratio class.
use Rattle.std.specs.Prelude.{ℕ, ◌+◌, ◌-◌, ◌*◌, ◌%◌, ◌==◌, ◌&&◌, ◌||◌, Bool, nat_lt, if◌then◌else◌}

-- what a column asks for: the class of a gap's time, that of its ratio to the gap before, or a shape with or without a crank edge
pub data Letter : Type 0 where
  TimeClass RatioClass CrankShape CamShape : Letter

-- the first column of the ratio classes
abbrev pub ratio_columns : ℕ → ℕ
ratio_columns times = times + 1

-- the first column of the shapes
abbrev pub shape_columns : ℕ → ℕ → ℕ
shape_columns times ratios = times + 1 + (2 * ratios + 1)

-- the column of a shape, which counts from 1
abbrev pub shape_column : ℕ → ℕ → ℕ → ℕ
shape_column times ratios shape = shape_columns times ratios + (shape - 1)

-- what a column asks for, in a table of so many cuts. A shape has no crank edge where it is a multiple of 3
abbrev pub letter_of : ℕ → ℕ → ℕ → Letter
letter_of times ratios column =
    if nat_lt column (ratio_columns times) then TimeClass
    else if nat_lt column (shape_columns times ratios) then RatioClass
    else if (column - shape_columns times ratios + 1) % 3 == 0 then CamShape
    else CrankShape

-- a letter leads from a phase to another
abbrev pub leads_to : Letter → ℕ → ℕ → Bool
leads_to CamShape from to = (from == to) && nat_lt from 3
leads_to CrankShape from to = ((from == 0) && (to == 1)) || ((from == 3) && (to == 2)) || ((from == 5) && (to == 2))
leads_to TimeClass from to = ((from == 1) && (to == 3)) || ((from == 2) && (to == 4))
leads_to RatioClass from to = (from == 4) && (to == 5)
