-- The slots of a wheel that is told by its teeth and by where its cams are high.
use Rattle.std.specs.Prelude.{ℕ, ◌+◌, ◌-◌, ◌*◌, ◌%◌, nat_lt, ◌==◌, if◌then◌else◌, List, [], ◌∷◌, ◌++◌, map, slice_index, Option}
use Rattle.std.specs.List.{repeat}
use Rattle.toml.specs.Data.{Data}
use Rattle.wheel_types.specs.Edges.{below}
use Rattle.wheel_pattern.specs.Values.{whole_below, count_below, pair_of}

-- how many slots: two for each tooth of a turn, and two turns where a cycle has 720 degrees
abbrev pub slots_of_teeth : ℕ → ℕ → ℕ
slots_of_teeth degrees teeth = if degrees == 720 then 4 * teeth else 2 * teeth

-- where a cam is high: its first high slot, and how many are high from there on
abbrev pub slots_high : ℕ → ℕ → Data → Option (ℕ × ℕ)
slots_high degrees teeth = pair_of (whole_below (slots_of_teeth degrees teeth)) (count_below (slots_of_teeth degrees teeth))

-- the crank's levels in one turn: high then low for each tooth that stands, then low for each missing one
abbrev pub turn_levels : ℕ → ℕ → List ℕ
turn_levels teeth missing = repeat (teeth - missing) (1 ∷ 0 ∷ []) ++ repeat missing (0 ∷ 0 ∷ [])

-- the crank's levels in a cycle, which has two turns where it has 720 degrees
abbrev pub crank_levels : ℕ → ℕ → ℕ → List ℕ
crank_levels degrees teeth missing =
    if degrees == 720 then turn_levels teeth missing ++ turn_levels teeth missing else turn_levels teeth missing

-- a cam's level in slot k of n: it is high from its first high slot on, in so many slots, counted round the end
abbrev pub cam_level : ℕ → ℕ × ℕ → ℕ → ℕ
cam_level n high k = if nat_lt ((k + (n - high.0)) % n) high.1 then 1 else 0

-- the slots of n: the crank's level in bit 0, the first cam's in bit 1, the second cam's in bit 2
abbrev pub pattern_slots : ℕ → List ℕ → ℕ × ℕ → ℕ × ℕ → List ℕ
pattern_slots n crank high1 high2 = map (λ k. slice_index crank k + 2 * cam_level n high1 k + 4 * cam_level n high2 k) (below n)
