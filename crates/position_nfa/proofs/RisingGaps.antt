-- Where the times of a window rise, the times of its crank edges are apart.
use Rattle.std.proofs.Common.{◌≤◌, List, [], ◌∷◌, reverse, ℤ, ◌<ℤ◌, subst, arith}
use Rattle.std.proofs.lemmas.Int.{ints}
use Rattle.std.proofs.lemmas.List.{reverse-reverse}
use Rattle.std.specs.Prelude.{⊤, Option, Some, None}
use Rattle.wheel_types.specs.declared.channel.Pol.{Pol}
use Rattle.wheel_types.specs.declared.instant.Instant.{Instant}
use Rattle.wheel_types.specs.Speeds.{time_between}
use Rattle.wheel_types.specs.Steps.{crank_times, time_if}
use Rattle.wheel_types.specs.Verdicts.{AllEarlier, IsRising}
use Rattle.wheel_types.proofs.RisingTimes.{RisesTo, rises_to-reverse}

-- each two times that follow each other are at least a femtosecond apart, where t is the last one
abbrev pub AreApart : ℤ → List ℤ → Type 0
AreApart t [] = ⊤
AreApart t (u ∷ ts) = (1 ≤ time_between u t) × AreApart u ts

later_apart : (u t : ℤ) → u <ℤ t → 1 ≤ time_between u t
later_apart u t h = omega (arith, ints)

apart : (t : ℤ) (past : List Instant) → AllEarlier t past → RisesTo past → AreApart t (crank_times past)
apart t [] e r = tt
apart t (i ∷ past) e r = by i.crank (apart t past e.1 r.1) (apart i.time past r.0 r.1)
  where
    by : (o : Option Pol) → AreApart t (crank_times past) → AreApart i.time (crank_times past) → AreApart t (time_if o i.time (crank_times past))
    by None here before = here
    by (Some p) here before = (later_apart i.time t e.0, before)

pub crank_times_apart : (i : Instant) (past : List Instant) → IsRising (reverse (i ∷ past)) → AreApart i.time (crank_times past)
crank_times_apart i past rising =
    let r : RisesTo (i ∷ past) = subst RisesTo (reverse-reverse (i ∷ past)) (rises_to-reverse (reverse (i ∷ past)) rising) in
    apart i.time past r.0 r.1
