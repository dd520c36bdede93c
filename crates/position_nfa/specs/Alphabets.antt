-- The places of a wheel and the cuts of its limits.
use Rattle.std.specs.Prelude.{ℕ, ◌+◌, ◌*◌, List, length, slice_index_or, pos, ◌↔◌, Contains}
use Rattle.wheel_types.specs.declared.place.Place.{Place}
use Rattle.wheel_types.specs.declared.parts.WheelParts.{WheelParts}
use Rattle.gap_thresholds.specs.declared.cuts.Cuts.{Cuts}
use Rattle.gap_thresholds.specs.Classes.{AreCutsOf, wheel_of, times_of, ratios_of}
use Rattle.cam_ranges.specs.Places.{IsPlace, IsAscending}

-- places, by their numbers, and cuts, which know their wheel
pub record Alphabet : Type 0 where
  pub places : List Place
  pub cuts : Cuts

-- the wheel that the cuts are of
abbrev pub wheel : Alphabet → WheelParts
wheel a = wheel_of a.cuts

-- how many places there are
abbrev pub count : Alphabet → ℕ
count a = length a.places

-- place i of a list
abbrev pub nth : List Place → ℕ → Place
nth ps i = slice_index_or ps i (record { j = 0; n1 = pos 0; n2 = pos 0 })

-- place i
abbrev pub place : Alphabet → ℕ → Place
place a i = nth a.places i

-- how many time classes there are: one more than cuts
abbrev pub time_classes : Alphabet → ℕ
time_classes a = length (times_of a.cuts) + 1

-- how many ratio classes: the cuts, and the ratios between them
abbrev pub ratio_classes : Alphabet → ℕ
ratio_classes a = 2 * length (ratios_of a.cuts) + 1

-- how many columns: the time classes, then the ratio classes, then the shapes 1 to 26
abbrev pub width : Alphabet → ℕ
width a = time_classes a + ratio_classes a + 26

-- these are the wheel's own
pub record IsAlphabetOf (w : WheelParts) (a : Alphabet) : Type 0 where
  pub cuts : AreCutsOf w a.cuts
  pub ascend : IsAscending a.places
  pub places : (p : Place) → Contains a.places p ↔ IsPlace w p
