-- What is left of the changes of all channels while the files are written. Lists of stamps have the last one first.
use Rattle.std.specs.Prelude.{◌≡◌, ℕ, ◌+◌, ◌≤◌, Bool, ◌⊎◌, ◌↔◌, List, ◌∷◌, length, Option, Some, None, Contains, ℤ, int_lt, if◌then◌else◌}
use Rattle.wheel_types.specs.declared.channel.Channel.{Channel}
use Rattle.wheel_types.specs.declared.channel.Channel.TheVariants.{Crank, Cam1, Cam2}
use Rattle.wheel_types.specs.declared.instant.Instant.{Instant}
use Rattle.capture_core.specs.declared.capture.Stamp.{Stamp}
use Rattle.capture_core.specs.declared.capture.Watch.{Watch}
use Rattle.capture_core.specs.Changes.{keep_on, level_on}
use Rattle.capture_core.specs.Stamps.{IsRising}
use Rattle.stimulus_files.specs.declared.merge.Merge.{Merge}
use Rattle.stimulus_files.specs.Changes.{edges_on, Change, GivesSome, IsGivenOn}
use Rattle.stimulus_files.specs.Tracks.{left_of}
use Rattle.stimulus_files.specs.Written.{RiseFrom}

-- the earlier of two times, where there are any
abbrev pub earlier : Option ℤ → Option ℤ → Option ℤ
earlier None b = b
earlier (Some t) None = Some t
earlier (Some t) (Some u) = Some (if int_lt t u then t else u)

-- the changes of a channel that are left
abbrev pub left_on : Channel → List Instant → Merge → List Change
left_on Crank is m = left_of is m.crank
left_on Cam1 is m = left_of is m.cam1
left_on Cam2 is m = left_of is m.cam2

-- each track has passed at most all instants
pub record IsWithin (is : List Instant) (m : Merge) : Type 0 where
  pub crank : m.crank.index ≤ length is
  pub cam1 : m.cam1.index ≤ length is
  pub cam2 : m.cam2.index ≤ length is

-- how many changes are left
abbrev pub left_count : List Instant → Merge → ℕ
left_count is m = length (left_of is m.crank) + length (left_of is m.cam1) + length (left_of is m.cam2)

-- some stamp of this time gives the channel this level
abbrev pub IsGivenBy : Channel → List Stamp → ℤ → Bool → Type 0
IsGivenBy c stamps t level = (s : Stamp) × (Contains stamps s × ((s.time ≡ t) × (level_on c s.given ≡ Some level)))

-- the last stamp, those before it, and the changes that are left and come later, are all that the files of the instants give
pub record Stands (watch : Watch) (is : List Instant) (s : Stamp) (past : List Stamp) (m : Merge) : Type 0 where
  pub rise : IsRising (s ∷ past)
  pub some : (r : Stamp) → Contains (s ∷ past) r → GivesSome r
  pub later : (c : Channel) → RiseFrom s.time (left_on c is m)
  pub given : (c : Channel) (t : ℤ) (level : Bool)
      → (IsGivenBy c (s ∷ past) t level ⊎ Contains (left_on c is m) (record { time = t; level = level }))
      ↔ IsGivenOn (keep_on c watch) (edges_on c is) t level
