-- The ratio classes that the limit on the ratio of two speeds keeps.
use Rattle.std.proofs.Common.{◌≡◌, ◌↔◌, inl, inr, ℕ, ◌*◌, ◌≤◌, ◌∙◌, ap, subst, arith}
use Rattle.std.specs.Prelude.{All}
use Rattle.wheel_types.specs.declared.parts.WheelParts.{WheelParts}
use Rattle.wheel_types.specs.Speeds.{KeepsRatio}
use Rattle.gap_thresholds.specs.declared.cut.Cut.{Cut}
use Rattle.gap_thresholds.specs.declared.cuts.Cuts.{Cuts}
use Rattle.gap_thresholds.specs.Fractions.{IsLowest, IsEqual}
use Rattle.gap_thresholds.specs.Gaps.{AreGaps}
use Rattle.gap_thresholds.specs.Classes.{wheel_of, ratios_of, ratio_class_of, AreCutsOf}
use Rattle.gap_thresholds.proofs.Counts.{at_most_then}
use Rattle.gap_thresholds.proofs.Kept.{ratio-between}
use Rattle.gap_thresholds.proofs.TimesKept.{some_bottoms}

-- a cut is at most a ratio where what it is equal to is
from_cut : (c : Cut) (a b x xb : ℕ) → 1 ≤ b → 1 ≤ c.bottom → IsEqual c a b → (c.top * xb ≤ x * c.bottom) ↔ (a * xb ≤ x * b)
from_cut c a b x xb some some_cut e = (λ h. at_most_then a b c.top c.bottom x xb some_cut (omega (arith, e)) h, λ h. at_most_then c.top c.bottom a b x xb some (omega (arith, e)) h)

-- a ratio is at most a cut where it is at most what that is equal to
to_cut : (c : Cut) (a b x xb : ℕ) → 1 ≤ b → 1 ≤ c.bottom → IsEqual c a b → (x * c.bottom ≤ c.top * xb) ↔ (x * b ≤ a * xb)
to_cut c a b x xb some some_cut e = (λ h. at_most_then x xb c.top c.bottom a b some_cut h (omega (arith, e)), λ h. at_most_then x xb a b c.top c.bottom some h (omega (arith, e)))

-- what a cut is equal to, by the numbers that it was made of
pub equal_as : (c : Cut) (s r t q a b d e : ℕ) → s ≡ a → r ≡ b → t ≡ d → q ≡ e → IsEqual c (s * r) (t * q) → IsEqual c (a * b) (d * e)
equal_as c s r t q a b d e f g h i k =
    let top : s * r ≡ a * b = ap (λ z. z * r) f ∙ ap (λ z. a * z) g in
    let bottom : t * q ≡ d * e = ap (λ z. z * q) h ∙ ap (λ z. d * z) i in
    subst (λ z. IsEqual c z (d * e)) top (subst (λ z. IsEqual c (s * r) z) bottom k)

-- the limit on the ratio, as bounds on the second time by the first
limit : (w : WheelParts) (s0 t0 s1 t1 : ℕ) → KeepsRatio w s0 t0 s1 t1 ↔ ((s1 * w.rd * t0 ≤ t1 * (s0 * w.rn)) × (t1 * (s0 * w.rd) ≤ s1 * w.rn * t0))
limit w s0 t0 s1 t1 = (λ k. (omega (arith, k.not_faster), omega (arith, k.not_slower)), λ b. record { not_slower = omega (arith, b.1); not_faster = omega (arith, b.0) })

-- the classes from that of the least ratio to that of the greatest have exactly the ratios that keep the limit
pub ratio_kept : (cuts : Cuts) (s0 s1 k t0 t1 low high : ℕ) (first last : Cut) → All IsLowest (ratios_of cuts) → AreCutsOf (wheel_of cuts) cuts → AreGaps (wheel_of cuts) s0 s1 → 1 ≤ s0 * (wheel_of cuts).rn → 1 ≤ s0 * (wheel_of cuts).rd
    → IsLowest first → IsEqual first (s1 * (wheel_of cuts).rd) (s0 * (wheel_of cuts).rn) → IsLowest last → IsEqual last (s1 * (wheel_of cuts).rn) (s0 * (wheel_of cuts).rd)
    → low ≡ ratio_class_of (ratios_of cuts) first.bottom first.top → high ≡ ratio_class_of (ratios_of cuts) last.bottom last.top → 1 ≤ t0 → ratio_class_of (ratios_of cuts) t0 t1 ≡ k
    → ((low ≤ k) × (k ≤ high)) ↔ KeepsRatio (wheel_of cuts) s0 t0 s1 t1
ratio_kept cuts s0 s1 k t0 t1 low high first last lowest are gaps some_n some_d f fe l le fc lc some e = (
  λ b.
      let within = between.0 (omega (arith, fc, b.0), omega (arith, lc, b.1)) in
      kept.1 (least.0 within.0, most.0 within.1),
  λ h.
      let within = kept.0 h in
      let classes = between.1 (least.1 within.0, most.1 within.1) in
      (omega (arith, fc, classes.0), omega (arith, lc, classes.1)),
)
  where
    kept : KeepsRatio (wheel_of cuts) s0 t0 s1 t1 ↔ ((s1 * (wheel_of cuts).rd * t0 ≤ t1 * (s0 * (wheel_of cuts).rn)) × (t1 * (s0 * (wheel_of cuts).rd) ≤ s1 * (wheel_of cuts).rn * t0))
    kept = limit (wheel_of cuts) s0 t0 s1 t1

    least : (first.top * t0 ≤ t1 * first.bottom) ↔ (s1 * (wheel_of cuts).rd * t0 ≤ t1 * (s0 * (wheel_of cuts).rn))
    least = from_cut first (s1 * (wheel_of cuts).rd) (s0 * (wheel_of cuts).rn) t1 t0 some_n f.0 fe

    most : (t1 * last.bottom ≤ last.top * t0) ↔ (t1 * (s0 * (wheel_of cuts).rd) ≤ s1 * (wheel_of cuts).rn * t0)
    most = to_cut last (s1 * (wheel_of cuts).rn) (s0 * (wheel_of cuts).rd) t1 t0 some_d l.0 le

    between : ((ratio_class_of (ratios_of cuts) first.bottom first.top ≤ k) × (k ≤ ratio_class_of (ratios_of cuts) last.bottom last.top)) ↔ ((first.top * t0 ≤ t1 * first.bottom) × (t1 * last.bottom ≤ last.top * t0))
    between = ratio-between (ratios_of cuts) first last k t1 t0 (some_bottoms (ratios_of cuts) lowest)
        ((are.ratios first).1 (s0, (s1, (gaps, (f, inl fe))))) f.0
        ((are.ratios last).1 (s0, (s1, (gaps, (l, inr le))))) l.0
        some e
