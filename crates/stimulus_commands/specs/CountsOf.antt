-- How many verdicts of each kind a list has.
use Rattle.std.specs.Prelude.{◌≡◌, ◌+◌, ◌++◌, ℕ, Bool, true, false, List, length, reverse, count_by, position, codes, decimal, None, Some}
use Rattle.std.specs.declared.option.Option.{Option}
use Rattle.wheel_types.specs.declared.instant.Instant.{Instant}
use Rattle.wheel_types.specs.declared.parts.WheelParts.{WheelParts}
use Rattle.wheel_types.specs.declared.verdict.Verdict.{Verdict}
use Rattle.wheel_types.specs.declared.verdict.Verdict.TheVariants.{At, Open, Lost}
use Rattle.wheel_types.specs.Verdicts.{AreVerdicts}
use Rattle.stimulus_commands.specs.declared.counts.Counts.{Counts}

-- the verdict is at a position
abbrev pub is_at : Verdict → Bool
is_at (At j slot) = true
is_at (Open a b) = false
is_at Lost = false

-- it is open
abbrev pub is_open : Verdict → Bool
is_open (At j slot) = false
is_open (Open a b) = true
is_open Lost = false

-- it is that of a loss
abbrev pub is_lost : Verdict → Bool
is_lost (At j slot) = false
is_lost (Open a b) = false
is_lost Lost = true

-- an index from 0 as a number from 1, or 0 where there is none
abbrev pub number_of : Option ℕ → ℕ
number_of None = 0
number_of (Some k) = k + 1

-- how many verdicts there are and how many of each kind, and the number, from 1, of the first that is at a position, or 0
abbrev pub counts_of : List Verdict → Counts
counts_of vs = record {
  instants = length vs;
  at = count_by is_at vs;
  left_open = count_by is_open vs;
  lost = count_by is_lost vs;
  first = number_of (position is_at vs);
}

-- the counts are those of the verdicts of the instants, in their order
abbrev pub AreCounts : WheelParts → List Instant → Counts → Type 0
AreCounts w is counts = (vs : List Verdict) × ((window : List Instant) × (AreVerdicts w (reverse is) vs window × (counts ≡ counts_of (reverse vs))))

-- the line of the counts
abbrev pub self_text : Counts → List ℕ
self_text c =
    codes "instants " ++ (decimal c.instants ++ (codes " at " ++ (decimal c.at ++ (codes " open " ++ (decimal c.left_open ++ (codes " lost "
    ++ (decimal c.lost ++ (codes " first " ++ (decimal c.first ++ codes "\n")))))))))
