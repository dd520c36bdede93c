-- The gaps of a wheel, and the cuts that its limits make. Crank edges are counted on through all cycles.
use Rattle.std.specs.Prelude.{◌≡◌, ◌↔◌, ◌⊎◌, ℕ, ◌+◌, ◌*◌, ℤ, pos, ◌+ℤ◌, List}
use Rattle.std.specs.List.{Contains}
use Rattle.wheel_types.specs.declared.parts.WheelParts.{WheelParts}
use Rattle.wheel_types.specs.Motions.{slots_between}
use Rattle.motion_bounds.specs.Times.{least_of, greatest_of}
use Rattle.gap_thresholds.specs.declared.cut.Cut.{Cut}
use Rattle.gap_thresholds.specs.Fractions.{Ascend, IsLowest, IsEqual}

-- so many slots are from one crank edge to the next
abbrev pub IsGap : WheelParts → ℕ → Type 0
IsGap w s = (m : ℤ) × (s ≡ slots_between w m (m +ℤ pos 1))

-- so many are from one to the next, and then so many to the one after
abbrev pub AreGaps : WheelParts → ℕ → ℕ → Type 0
AreGaps w s0 s1 = (m : ℤ) × ((s0 ≡ slots_between w m (m +ℤ pos 1)) × (s1 ≡ slots_between w (m +ℤ pos 1) (m +ℤ pos 2)))

-- the least time of so many slots, or the first past the greatest
abbrev pub IsCutOfGap : WheelParts → ℕ → Cut → Type 0
IsCutOfGap w s c = (c.bottom ≡ 1) × ((c.top ≡ least_of w s) ⊎ (c.top ≡ greatest_of w s + 1))

-- a time cut
abbrev pub IsTimeCut : WheelParts → Cut → Type 0
IsTimeCut w c = (s : ℕ) × (IsGap w s × IsCutOfGap w s c)

-- the least ratio of two gaps' times, or the greatest, in lowest terms
abbrev pub IsCutOfGaps : WheelParts → ℕ → ℕ → Cut → Type 0
IsCutOfGaps w s0 s1 c = IsLowest c × (IsEqual c (s1 * w.rd) (s0 * w.rn) ⊎ IsEqual c (s1 * w.rn) (s0 * w.rd))

-- a ratio cut
abbrev pub IsRatioCut : WheelParts → Cut → Type 0
IsRatioCut w c = (s0 : ℕ) × ((s1 : ℕ) × (AreGaps w s0 s1 × IsCutOfGaps w s0 s1 c))

-- these are exactly the time cuts of a wheel and its ratio cuts, each once and in order
pub record AreAllCuts (w : WheelParts) (times ratios : List Cut) : Type 0 where
  pub times_are : (k : Cut) → Contains times k ↔ IsTimeCut w k
  pub times_ascend : Ascend times
  pub ratios_are : (k : Cut) → Contains ratios k ↔ IsRatioCut w k
  pub ratios_ascend : Ascend ratios
