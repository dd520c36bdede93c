-- The slots that the numbers of a tooth pattern stand for.
use Rattle.std.specs.Prelude.{ℕ, ◌+◌, ◌*◌, ◌<◌, ◌≤◌, List, slice_index}
use Rattle.wheel_pattern.specs.declared.tooth_pattern.Pattern.{Pattern}
use Rattle.wheel_pattern.specs.ToothPattern.{slots_of_teeth, crank_levels, cam_level, pattern_slots}

-- how many slots a pattern has
abbrev pub count_of : Pattern → ℕ
count_of p = slots_of_teeth p.degrees p.teeth

-- the crank's levels in a pattern
abbrev pub levels_of : Pattern → List ℕ
levels_of p = crank_levels p.degrees p.teeth p.missing

-- slot k of a pattern
abbrev pub slot_of : Pattern → ℕ → ℕ
slot_of p k = slice_index (levels_of p) k + 2 * cam_level (count_of p) p.high1 k + 4 * cam_level (count_of p) p.high2 k

-- the slots of a pattern
abbrev pub slots_of : Pattern → List ℕ
slots_of p = pattern_slots (count_of p) (levels_of p) p.high1 p.high2

-- the numbers of a pattern lie within the ranges of a wheel file
pub record IsWithin (p : Pattern) : Type 0 where
  pub teeth : p.teeth ≤ 2048
  pub missing : p.missing < p.teeth
  pub high1 : p.high1.0 ≤ count_of p
  pub high2 : p.high2.0 ≤ count_of p
