-- A stimulus as it is made.
use Rattle.std.specs.Prelude.{◌≡◌, ℕ, ◌+◌, ◌<◌, ◌≤◌, ◌⊎◌, Option, Some, None, IfSome, ℤ, ◌≤ℤ◌, ◌<ℤ◌}
use Rattle.std.specs.Int.{int_min}
use Rattle.wheel_types.specs.declared.channel.Channel.TheVariants.{Cam1, Cam2}
use Rattle.wheel_types.specs.declared.parts.WheelParts.{WheelParts}
use Rattle.stimulus.specs.declared.maker.Maker.{Maker}
use Rattle.stimulus.specs.declared.plan.Plan.{Plan}
use Rattle.stimulus.specs.CamsOf.{IsCam}
use Rattle.stimulus.specs.Cranks.{IsCrankEdge, IsAfter, gap_generator}
use Rattle.stimulus.specs.MadeTo.{IsMadeTo}

-- how many edges of cams were passed
abbrev pub cams_passed : Maker → ℕ
cams_passed m = m.cam1.passed + m.cam2.passed

-- the edges up to some angle of the gap are made
pub record IsMade (w : WheelParts) (p : Plan) (m : Maker) : Type 0 where
  pub from : IsCrankEdge w p.seed m.from
  pub to : IsCrankEdge w p.seed m.to
  pub next : IsAfter m.from m.to
  pub generator : m.generator ≡ gap_generator p.seed m.to.number
  pub within : m.from.number < p.gaps
  pub cam1 : IsCam w Cam1 p.seed m.cam1
  pub cam2 : IsCam w Cam2 p.seed m.cam2
  pub angle : ℤ
  pub given : IsMadeTo w p.seed m.from.number m.cam1.passed m.cam2.passed angle m.instants.items

-- and there are not too many edges yet
pub record IsMaking (w : WheelParts) (p : Plan) (m : Maker) : Type 0 where
  pub made : IsMade w p m
  pub few : p.gaps + 1 + cams_passed m ≤ 4000000

-- the earlier of two angles, where there are two
abbrev pub IsEarlier : Option ℤ → Option ℤ → Option ℤ → Type 0
IsEarlier None y z = z ≡ y
IsEarlier (Some x) None z = z ≡ Some x
IsEarlier (Some x) (Some y) z = z ≡ Some (int_min x y)

-- the next edges of the cams are at the angle or after it
abbrev pub AreFrom : Maker → ℤ → Type 0
AreFrom m x = IfSome m.cam1.next (λ y. x ≤ℤ y) × IfSome m.cam2.next (λ y. x ≤ℤ y)

-- they are not before the next crank edge
abbrev pub ArePast : Maker → Type 0
ArePast m = AreFrom m m.to.angle

-- the first of them is at the angle, before the next crank edge
pub record IsEarliest (m : Maker) (x : ℤ) : Type 0 where
  pub from : AreFrom m x
  pub one : (m.cam1.next ≡ Some x) ⊎ (m.cam2.next ≡ Some x)
  pub before : x <ℤ m.to.angle
