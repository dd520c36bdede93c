-- The next edges of an engine, and the angles at which it stands with them.
use Rattle.std.specs.Prelude.{◌≡◌, ◌<◌, ℤ, pos, ◌+ℤ◌, ◌-ℤ◌, ◌≤ℤ◌}
use Rattle.wheel_types.specs.declared.channel.Channel.{Channel}
use Rattle.wheel_types.specs.declared.channel.Channel.TheVariants.{Crank, Cam1, Cam2}
use Rattle.wheel_types.specs.declared.parts.WheelParts.{WheelParts}
use Rattle.wheel_types.specs.Edges.{edge_count, angle_of, first_angle, last_angle}

-- the next edge of each channel
pub record Indices : Type 0 where
  pub crank : ℤ
  pub cam1 : ℤ
  pub cam2 : ℤ

-- the next edge of a channel
abbrev pub index_of : Indices → Channel → ℤ
index_of ix Crank = ix.crank
index_of ix Cam1 = ix.cam1
index_of ix Cam2 = ix.cam2

-- the indices after the next edge of the channel
abbrev pub passed : Channel → Indices → Indices
passed Crank ix = record { crank = ix.crank +ℤ pos 1; cam1 = ix.cam1; cam2 = ix.cam2 }
passed Cam1 ix = record { crank = ix.crank; cam1 = ix.cam1 +ℤ pos 1; cam2 = ix.cam2 }
passed Cam2 ix = record { crank = ix.crank; cam1 = ix.cam1; cam2 = ix.cam2 +ℤ pos 1 }

-- at the angle x, edge n - 1 of the cam may have fallen and edge n need not have. The index of an absent cam is 0
pub record CamStands (w : WheelParts) (c : Channel) (n x : ℤ) : Type 0 where
  pub absent : edge_count w c ≡ 0 → n ≡ pos 0
  pub behind : 0 < edge_count w c → first_angle w c (n -ℤ pos 1) ≤ℤ x
  pub ahead : 0 < edge_count w c → x ≤ℤ last_angle w c n

-- the engine stands at the angle x with these next edges
pub record Stands (w : WheelParts) (x : ℤ) (ix : Indices) : Type 0 where
  pub behind : angle_of w Crank (ix.crank -ℤ pos 1) ≤ℤ x
  pub ahead : x ≤ℤ angle_of w Crank ix.crank
  pub cam1 : CamStands w Cam1 ix.cam1 x
  pub cam2 : CamStands w Cam2 ix.cam2 x
