-- The letters of an image's walk, and those of an alphabet. A list of times has the last one first.
use Rattle.std.specs.Prelude.{◌≡◌, ℕ, ◌+◌, ◌*◌, ◌-◌, ◌^◌, ◌<◌, ◌≤◌, List, [], ◌∷◌, ◌++◌, Option, Some, None, ℤ, min, ⊤}
use Rattle.wheel_types.specs.declared.channel.Pol.{Pol}
use Rattle.wheel_types.specs.declared.instant.Instant.{Instant}
use Rattle.wheel_types.specs.Shapes.{shape_number}
use Rattle.wheel_types.specs.Speeds.{time_between}
use Rattle.wheel_types.specs.Steps.{crank_times}
use Rattle.gap_thresholds.specs.Classes as classes
use Rattle.gap_thresholds.specs.Classes.{times_of, ratios_of}
use Rattle.image_layout.specs.Layout.{place_total, time_total, ratio_total, row_width}
use Rattle.image_layout.specs.Fields.{place_at, wheel_parts_of}
use Rattle.image_layout.specs.Tables.{KeepsLayout}
use Rattle.image_format.specs.Walk as walk
use Rattle.position_nfa.specs.Alphabets.{Alphabet, IsAlphabetOf, count, place, time_classes, ratio_classes, width}
use Rattle.position_nfa.specs.Sound.{AreSoundOver}
use Rattle.table_images.specs.Images.{table_of}

-- the longest gap that a walk tells from longer ones, in femtoseconds
abbrev pub longest_gap : ℕ
longest_gap = 2 ^ 64 - 1

-- the image keeps its layout, and its table is sound over an alphabet of its wheel, as that of every sound image is over one
pub record IsSoundOver (b : List ℕ) (a : Alphabet) : Type 0 where
  pub layout : KeepsLayout b
  pub wheel : IsAlphabetOf (wheel_parts_of b) a
  pub table : AreSoundOver a (table_of b)

-- the image has the alphabet's places and columns, and gives gaps their classes, also where a gap's time was cut down
pub record HasAlphabet (b : List ℕ) (a : Alphabet) : Type 0 where
  pub many : place_total b ≡ count a
  pub places : (k : ℕ) → k < count a → place_at b k ≡ place a k
  pub times : time_total b + 1 ≡ time_classes a
  pub ratios : 2 * ratio_total b + 1 ≡ ratio_classes a
  pub columns : row_width b ≡ width a
  pub time : (t : ℕ) → walk.time_class_of b (min t longest_gap) ≡ classes.time_class_of (times_of a.cuts) t
  pub ratio : (t0 t1 : ℕ) → walk.ratio_class_of b t0 t1 ≡ classes.ratio_class_of (ratios_of a.cuts) t0 t1

-- the column of the class of the gap from the time u to the time t
abbrev pub time_column : Alphabet → ℤ → ℤ → ℕ
time_column a t u = classes.time_class_of (times_of a.cuts) (time_between u t)

-- the column of the class of its ratio to the gap before, from the time v to u
abbrev pub ratio_column : Alphabet → ℤ → ℤ → ℤ → ℕ
ratio_column a t u v =
    time_classes a + classes.ratio_class_of (ratios_of a.cuts) (time_between v u) (time_between u t)

-- the column of a shape, which counts from 1
abbrev pub column_of_shape : Alphabet → ℕ → ℕ
column_of_shape a shape = time_classes a + ratio_classes a + (shape - 1)

-- the columns of the gap that a crank edge at the time t ends, after crank edges at these times: none, one or two
abbrev pub gap_columns : Alphabet → ℤ → List ℤ → List ℕ
gap_columns a t [] = []
gap_columns a t (u ∷ []) = time_column a t u ∷ []
gap_columns a t (u ∷ v ∷ ts) = time_column a t u ∷ ratio_column a t u v ∷ []

-- the same where a crank edge is seen
abbrev pub gap_columns_if : Option Pol → Alphabet → ℤ → List ℤ → List ℕ
gap_columns_if None a t ts = []
gap_columns_if (Some p) a t ts = gap_columns a t ts

-- the columns of an instant in a window that has the instants of the past: those of its gap, and that of its shape
abbrev pub columns_of : Alphabet → List Instant → Instant → List ℕ
columns_of a past i =
    gap_columns_if i.crank a i.time (crank_times past) ++ column_of_shape a (shape_number i.crank i.cam1 i.cam2) ∷ []

-- the gap between the last two of these times is not cut down
abbrev pub IsShort : List ℤ → Type 0
IsShort [] = ⊤
IsShort (t ∷ []) = ⊤
IsShort (t ∷ u ∷ ts) = time_between u t ≤ longest_gap

-- nor is the gap from the last of these times to the time t
abbrev pub IsWhole : ℤ → List ℤ → Type 0
IsWhole t [] = ⊤
IsWhole t (u ∷ ts) = time_between u t ≤ longest_gap
