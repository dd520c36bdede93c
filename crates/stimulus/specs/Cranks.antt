-- Crank edges as they are kept.
use Rattle.std.specs.Prelude.{◌≡◌, ℕ, suc, ◌+◌, ◌*◌, ◌^◌, ◌<◌, ◌≤◌, Option, unsigned_abs}
use Rattle.rand_pcg.specs.Lcg.{Lcg}
use Rattle.wheel_types.specs.declared.parts.WheelParts.{WheelParts}
use Rattle.stimulus.specs.declared.crank.CrankEdge.{CrankEdge}
use Rattle.stimulus.specs.declared.fault.StimFault.{StimFault}
use Rattle.stimulus.specs.declared.fault.StimFault.TheVariants.{Stuck}
use Rattle.stimulus.specs.declared.gap.Gap as kept
use Rattle.stimulus.specs.Draws.{generator_of, before_draw}
use Rattle.stimulus.specs.Gaps.{first_edge, crank_angle, crank_time, gap_before, least_after, greatest_after, HasTimes}
use Rattle.stimulus.specs.GapsOf.{gap_of, IsGapIf}

-- the generator before the draw of gap i
abbrev pub gap_generator : ℕ → ℕ → Lcg
gap_generator seed i = before_draw (generator_of seed 0) (suc i)

-- it is the crank edge of its number in the stimulus, and each gap before it has a time
pub record IsCrankEdge (w : WheelParts) (seed : ℕ) (e : CrankEdge) : Type 0 where
  pub few : e.number ≤ 1000000
  pub edge : e.edge ≡ first_edge w seed + e.number
  pub angle : e.angle ≡ crank_angle w seed e.number
  pub small : unsigned_abs e.angle ≤ 2 ^ 57
  pub time : e.time ≡ crank_time w seed e.number
  pub early : e.time ≤ (e.number + 1) * 2 ^ 57
  pub before : gap_of e.before ≡ gap_before w seed e.number
  pub limits : IsGapIf w e.before
  pub timed : HasTimes w seed e.number

-- the one edge is the next after the other
abbrev pub IsAfter : CrankEdge → CrankEdge → Type 0
IsAfter e f = f.number ≡ suc e.number

-- the fault tells the gap, and the limits of its slots, between which there is no time
pub record IsEmpty (w : WheelParts) (number : ℕ) (before : Option kept.Gap) (slots : ℕ) (fault : StimFault) : Type 0 where
  pub low : ℕ
  pub high : ℕ
  pub fault_is : fault ≡ Stuck number low high
  pub low_is : low ≡ least_after w (gap_of before) slots
  pub high_is : high ≡ greatest_after w (gap_of before) slots
  pub none : high < low
