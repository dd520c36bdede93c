-- Classes of times and of ratios of times, by the cuts of a wheel.
use Rattle.std.specs.Prelude.{◌≡◌, ◌↔◌, ℕ, ◌+◌, ◌*◌, List}
use Rattle.std.specs.List.{Contains}
use Rattle.wheel_types.specs.declared.parts.WheelParts.{WheelParts}
use Rattle.gap_thresholds.specs.declared.cut.Cut.{Cut}
use Rattle.gap_thresholds.specs.declared.cuts.Cuts.{Cuts}
use Rattle.gap_thresholds.specs.Fractions.{Ascend, count_below, count_equal}
use Rattle.gap_thresholds.specs.Gaps.{IsTimeCut, IsRatioCut}

-- the wheel whose cuts they are
abbrev pub wheel_of : Cuts → WheelParts
wheel_of c = c.wheel.parts

-- the time cuts, ascending
abbrev pub times_of : Cuts → List Cut
times_of c = c.times.cuts.items

-- the ratio cuts, ascending
abbrev pub ratios_of : Cuts → List Cut
ratios_of c = c.ratios.cuts.items

-- how many cuts are at most the time
abbrev pub time_class_of : List Cut → ℕ → ℕ
time_class_of cuts t = count_below cuts t 1 + count_equal cuts t 1

-- twice how many cuts are below t1 / t0, and 1 more where it is a cut
abbrev pub ratio_class_of : List Cut → ℕ → ℕ → ℕ
ratio_class_of cuts t0 t1 = 2 * count_below cuts t1 t0 + count_equal cuts t1 t0

-- these are exactly the wheel's cuts, each once and in order
pub record AreCutsOf (w : WheelParts) (c : Cuts) : Type 0 where
  pub wheel : wheel_of c ≡ w
  pub times : (k : Cut) → Contains (times_of c) k ↔ IsTimeCut w k
  pub times_ascend : Ascend (times_of c)
  pub ratios : (k : Cut) → Contains (ratios_of c) k ↔ IsRatioCut w k
  pub ratios_ascend : Ascend (ratios_of c)
