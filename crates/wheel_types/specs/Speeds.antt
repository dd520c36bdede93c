-- Limits on the speed of the crank. A list of passes has the last one first.
use Rattle.std.specs.Prelude.{ℕ, ◌*◌, ◌^◌, ◌≤◌, List, [], ◌∷◌, ℤ, ◌-ℤ◌, unsigned_abs, ⊤}
use Rattle.wheel_types.specs.declared.channel.Channel.{Channel}
use Rattle.wheel_types.specs.declared.channel.Channel.TheVariants.{Crank, Cam1, Cam2}
use Rattle.wheel_types.specs.declared.parts.WheelParts.{WheelParts}
use Rattle.wheel_types.specs.Edges.{slot_count, slot_of}
use Rattle.wheel_types.specs.Indices.{Indices}
use Rattle.wheel_types.specs.Moves.{Move, indices_after}

-- a crank edge that was passed, and when
pub record Pass : Type 0 where
  pub time : ℤ
  pub edge : ℤ

-- the passes with one more, where it is the crank that moves
abbrev pub pass_if : Channel → Pass → List Pass → List Pass
pass_if Crank p ps = p ∷ ps
pass_if Cam1 p ps = ps
pass_if Cam2 p ps = ps

-- the crank edges that the moves pass
abbrev pub crank_passes : Indices → List Move → List Pass
crank_passes ix [] = []
crank_passes ix (v ∷ vs) = pass_if v.channel (record { time = v.time; edge = (indices_after ix vs).crank }) (crank_passes ix vs)

-- s slots in t femtoseconds keep the limits of speed
pub record KeepsSpeed (w : WheelParts) (s t : ℕ) : Type 0 where
  pub later : 1 ≤ t
  pub not_slower : w.rpm_low * 6 * slot_count w * t ≤ s * w.degrees * 10 ^ 15
  pub not_faster : s * w.degrees * 10 ^ 15 ≤ w.rpm_high * 6 * slot_count w * t

-- s0 slots in t0 and then s1 slots in t1 keep the limit on the ratio of two speeds
pub record KeepsRatio (w : WheelParts) (s0 t0 s1 t1 : ℕ) : Type 0 where
  pub not_slower : s0 * t1 * w.rd ≤ s1 * t0 * w.rn
  pub not_faster : s1 * t0 * w.rd ≤ s0 * t1 * w.rn

-- how many slots are between two crank edges
abbrev pub slots_between : WheelParts → ℤ → ℤ → ℕ
slots_between w m n = unsigned_abs (slot_of w Crank n -ℤ slot_of w Crank m)

-- how many femtoseconds are between two times
abbrev pub time_between : ℤ → ℤ → ℕ
time_between t u = unsigned_abs (u -ℤ t)

-- every two successive passes keep the limits of speed
abbrev pub AllKeepSpeed : WheelParts → List Pass → Type 0
AllKeepSpeed w [] = ⊤
AllKeepSpeed w (p ∷ []) = ⊤
AllKeepSpeed w (q ∷ p ∷ ps) = KeepsSpeed w (slots_between w p.edge q.edge) (time_between p.time q.time) × AllKeepSpeed w (p ∷ ps)

-- every three keep the ratio
abbrev pub AllKeepRatio : WheelParts → List Pass → Type 0
AllKeepRatio w [] = ⊤
AllKeepRatio w (p ∷ []) = ⊤
AllKeepRatio w (q ∷ p ∷ []) = ⊤
AllKeepRatio w (r ∷ q ∷ p ∷ ps) = KeepsRatio w (slots_between w p.edge q.edge) (time_between p.time q.time) (slots_between w q.edge r.edge) (time_between q.time r.time) × AllKeepRatio w (q ∷ p ∷ ps)
