-- Moves of an engine, one after the other. A list of moves has the last one first.
use Rattle.std.specs.Prelude.{◌≡◌, ◌≢◌, ◌<◌, List, [], ◌∷◌, ℤ, ◌≤ℤ◌, ⊤}
use Rattle.wheel_types.specs.declared.channel.Channel.{Channel}
use Rattle.wheel_types.specs.declared.parts.WheelParts.{WheelParts}
use Rattle.wheel_types.specs.Edges.{edge_count}
use Rattle.wheel_types.specs.Indices.{Indices, passed, Stands}

-- a channel passes its next edge at a time and an angle
pub record Move : Type 0 where
  pub time : ℤ
  pub channel : Channel
  pub angle : ℤ

-- the next edges after the moves
abbrev pub indices_after : Indices → List Move → Indices
indices_after ix [] = ix
indices_after ix (v ∷ vs) = passed v.channel (indices_after ix vs)

-- the angle after the moves
abbrev pub angle_after : ℤ → List Move → ℤ
angle_after x [] = x
angle_after x (v ∷ vs) = v.angle

-- the engine, at the angle x with these next edges, can make this move
pub record CanMove (w : WheelParts) (x : ℤ) (ix : Indices) (v : Move) : Type 0 where
  pub forward : x ≤ℤ v.angle
  pub present : 0 < edge_count w v.channel
  pub before : Stands w v.angle ix
  pub after : Stands w v.angle (passed v.channel ix)

-- it can make these moves, one after the other
abbrev pub CanMake : WheelParts → ℤ → Indices → List Move → Type 0
CanMake w x ix [] = ⊤
CanMake w x ix (v ∷ vs) = CanMove w (angle_after x vs) (indices_after ix vs) v × CanMake w x ix vs

-- no move of the list is after the time t
abbrev pub NoneAfter : ℤ → List Move → Type 0
NoneAfter t [] = ⊤
NoneAfter t (v ∷ vs) = (v.time ≤ℤ t) × NoneAfter t vs

-- no move of the list is one of this channel at the time t
abbrev pub NoneAt : ℤ → Channel → List Move → Type 0
NoneAt t c [] = ⊤
NoneAt t c (v ∷ vs) = (v.time ≡ t → v.channel ≢ c) × NoneAt t c vs

-- times never fall, and no channel moves twice at one time
abbrev pub InTime : List Move → Type 0
InTime [] = ⊤
InTime (v ∷ vs) = NoneAfter v.time vs × NoneAt v.time v.channel vs × InTime vs
