-- Walks over places, angle by angle, without times. Lists of channels, of next edges and of angles have the last one first.
use Rattle.std.specs.Prelude.{List, [], ◌∷◌, ℤ, ⊤}
use Rattle.wheel_types.specs.declared.channel.Channel.{Channel}
use Rattle.wheel_types.specs.declared.parts.WheelParts.{WheelParts}
use Rattle.wheel_types.specs.Motions.{Indices, passed, Stands, CanMove}
use Rattle.wheel_types.specs.Steps.{IsStanding}
use Rattle.wheel_types.specs.Named.{IsLeastAngle}

-- the next edges after each of the channels has passed one
abbrev pub after_passes : Indices → List Channel → Indices
after_passes ix [] = ix
after_passes ix (c ∷ cs) = passed c (after_passes ix cs)

-- the next edges at the places of the walk: of its start, and after each pass
abbrev pub walk_of : Indices → List Channel → List Indices
walk_of ix [] = ix ∷ []
walk_of ix (c ∷ cs) = after_passes ix (c ∷ cs) ∷ walk_of ix cs

-- some angle stands with each of these next edges
abbrev pub AllStand : WheelParts → List Indices → Type 0
AllStand w [] = ⊤
AllStand w (ix ∷ ixs) = IsStanding w ix × AllStand w ixs

-- at whatever time, the engine can pass the channel's next edge at the angle y, from the angle x with these next edges
abbrev pub CanPass : WheelParts → ℤ → Indices → Channel → ℤ → Type 0
CanPass w x ix c y = (t : ℤ) → CanMove w x ix (record { time = t; channel = c; angle = y })

-- the first of these angles, the last in the list, stands with these next edges, and from there the channels can pass at
-- the others, one after the other
abbrev pub MakePasses : WheelParts → Indices → List Channel → List ℤ → Type 0
MakePasses w ix [] (x ∷ []) = Stands w x ix
MakePasses w ix (c ∷ cs) (y ∷ x ∷ xs) = CanPass w x (after_passes ix cs) c y × MakePasses w ix cs (x ∷ xs)
MakePasses w ix [] [] = ⊥
MakePasses w ix [] (y ∷ x ∷ xs) = ⊥
MakePasses w ix (c ∷ cs) [] = ⊥
MakePasses w ix (c ∷ cs) (x ∷ []) = ⊥

-- these are the least angles that stand with each of these next edges
abbrev pub AreLeastAngles : WheelParts → List Indices → List ℤ → Type 0
AreLeastAngles w [] [] = ⊤
AreLeastAngles w (ix ∷ ixs) (x ∷ xs) = IsLeastAngle w ix x × AreLeastAngles w ixs xs
AreLeastAngles w [] (x ∷ xs) = ⊥
AreLeastAngles w (ix ∷ ixs) [] = ⊥
