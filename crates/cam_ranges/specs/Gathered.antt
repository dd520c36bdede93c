-- Places as they are gathered: position by position, and edge by edge of the first cam and then of the second.
use Rattle.std.specs.Prelude.{◌≡◌, ℕ, ◌<◌, ◌⊎◌, ◌↔◌, List, ℤ, ◌<ℤ◌, Contains}
use Rattle.wheel_types.specs.declared.place.Place.{Place}
use Rattle.wheel_types.specs.declared.parts.WheelParts.{WheelParts}
use Rattle.cam_ranges.specs.Places.{IsPlace, IsAscending}

-- the list has exactly the places with the property, in their order
pub record AreExactly (P : Place → Type 0) (ps : List Place) : Type 0 where
  pub ascend : IsAscending ps
  pub exact : (p : Place) → Contains ps p ↔ P p

-- a place of the wheel at a position before j
abbrev pub IsBeforePosition : WheelParts → ℕ → Place → Type 0
IsBeforePosition w j p = IsPlace w p × (p.j < j)

-- or at position j, and before edge n of the first cam
abbrev pub IsBeforeFirst : WheelParts → ℕ → ℤ → Place → Type 0
IsBeforeFirst w j n p = IsPlace w p × ((p.j < j) ⊎ ((p.j ≡ j) × (p.n1 <ℤ n)))

-- or with that edge next, and before edge m of the second cam
abbrev pub IsBeforeSecond : WheelParts → ℕ → ℤ → ℤ → Place → Type 0
IsBeforeSecond w j n m p = IsPlace w p × ((p.j < j) ⊎ ((p.j ≡ j) × ((p.n1 <ℤ n) ⊎ ((p.n1 ≡ n) × (p.n2 <ℤ m)))))
