-- The time classes that the limits on speed keep.
use Rattle.std.proofs.Common.{◌≡◌, ◌↔◌, inl, inr, ℕ, ◌+◌, ◌≤◌, List, refl, sym, arith}
use Rattle.std.specs.Prelude.{All}
use Rattle.std.proofs.lemmas.List.Elements.{All-weaker}
use Rattle.wheel_types.specs.Speeds.{KeepsSpeed}
use Rattle.wheel_types.specs.Wheels.{IsWheel}
use Rattle.motion_bounds.specs.Times.{least_of, greatest_of}
use Rattle.motion_bounds.proofs.Between.{times_are_between}
use Rattle.gap_thresholds.specs.declared.cut.Cut.{Cut}
use Rattle.gap_thresholds.specs.declared.cuts.Cuts.{Cuts}
use Rattle.gap_thresholds.specs.Fractions.{IsLowest}
use Rattle.gap_thresholds.specs.Gaps.{IsGap}
use Rattle.gap_thresholds.specs.Classes.{wheel_of, times_of, time_class_of, AreCutsOf}
use Rattle.gap_thresholds.proofs.GapSizes.{gap_sizes}
use Rattle.gap_thresholds.proofs.Kept.{AreSome, time-between}

-- fractions in lowest terms have bottoms above 0
pub some_bottoms : (cuts : List Cut) → All IsLowest cuts → AreSome cuts
some_bottoms cuts h = All-weaker IsLowest (λ c. 1 ≤ c.bottom) (λ c k. k.0) cuts h

abbrev pub whole : ℕ → Cut
whole n = record { top = n; bottom = 1 }

-- the classes from that of the least time to that of the greatest have exactly the times that keep the limits
pub time_kept : (cuts : Cuts) (s k t first last low high : ℕ) → IsWheel (wheel_of cuts) → All IsLowest (times_of cuts) → AreCutsOf (wheel_of cuts) cuts → IsGap (wheel_of cuts) s
    → low ≡ least_of (wheel_of cuts) s → first ≡ time_class_of (times_of cuts) low → high ≡ greatest_of (wheel_of cuts) s → last ≡ time_class_of (times_of cuts) high
    → time_class_of (times_of cuts) t ≡ k → ((first ≤ k) × (k ≤ last)) ↔ KeepsSpeed (wheel_of cuts) s t
time_kept cuts s k t first last low high wheel lowest are gap l f h g e = (
  λ b.
      let within : (low ≤ t) × (t ≤ high) = between.0 (omega (arith, f, b.0), omega (arith, g, b.1)) in
      law.1 (omega (arith, l, within.0), omega (arith, h, within.1)),
  λ kept.
      let within = law.0 kept in
      let classes = between.1 (omega (arith, l, within.0), omega (arith, h, within.1)) in
      (omega (arith, f, classes.0), omega (arith, g, classes.1)),
)
  where
    law : KeepsSpeed (wheel_of cuts) s t ↔ ((least_of (wheel_of cuts) s ≤ t) × (t ≤ greatest_of (wheel_of cuts) s))
    law = times_are_between (wheel_of cuts) s t wheel (gap_sizes (wheel_of cuts) s wheel.crank_edge gap).0

    between : ((time_class_of (times_of cuts) low ≤ k) × (k ≤ time_class_of (times_of cuts) high)) ↔ ((low ≤ t) × (t ≤ high))
    between = time-between (times_of cuts) (whole (least_of (wheel_of cuts) s)) (whole (greatest_of (wheel_of cuts) s + 1)) low high k t
        (some_bottoms (times_of cuts) lowest)
        ((are.times (whole (least_of (wheel_of cuts) s))).1 (s, (gap, (refl, inl refl)))) refl (sym l)
        ((are.times (whole (greatest_of (wheel_of cuts) s + 1))).1 (s, (gap, (refl, inr refl)))) refl (omega (arith, h))
        e
