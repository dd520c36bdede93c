-- The places of a wheel.
use Rattle.std.specs.Prelude.{◌≡◌, ℕ, ◌<◌, ◌⊎◌, List, length, slice_index_or, ℤ, ◌<ℤ◌, All}
use Rattle.wheel_types.specs.declared.channel.Channel.TheVariants.{Crank}
use Rattle.wheel_types.specs.declared.place.Place.{Place}
use Rattle.wheel_types.specs.declared.parts.WheelParts.{WheelParts}
use Rattle.wheel_types.specs.Edges.{edge_count}
use Rattle.wheel_types.specs.Motions.{Stands}
use Rattle.wheel_types.specs.Steps.{indices_of}

-- the place is one of the wheel: it names a crank edge of the first cycle, and some angle stands with its next edges
pub record IsPlace (w : WheelParts) (p : Place) : Type 0 where
  pub edge : p.j < edge_count w Crank
  pub stands : (x : ℤ) × Stands w x (indices_of p)

-- the place p stands before the place q, another one
abbrev pub IsLess : Place → Place → Type 0
IsLess p q = (p.j < q.j) ⊎ ((p.j ≡ q.j) × ((p.n1 <ℤ q.n1) ⊎ ((p.n1 ≡ q.n1) × (p.n2 <ℤ q.n2))))

-- each of the places stands before all that come after it in the list
abbrev pub IsAscending : List Place → Type 0
IsAscending ps = (a b : ℕ) (d : Place) → a < b → b < length ps → IsLess (slice_index_or ps a d) (slice_index_or ps b d)

-- more places stand than a set of places takes: some ascending list has more than 16,384 of them
pub record HasTooMany (w : WheelParts) : Type 0 where
  pub places : List Place
  pub ascend : IsAscending places
  pub stand : All (IsPlace w) places
  pub many : 16384 < length places
