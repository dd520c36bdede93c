-- The cuts of a wheel are those of the gaps after the crank edges of a cycle.
use Rattle.std.proofs.Common.{◌≡◌, ℕ, ◌+◌, ◌*◌, ◌<◌, List, ◌⊎◌, inl, inr, sym, ◌∙◌, ap, subst, arith}
use Rattle.std.specs.Prelude.{◌↔◌}
use Rattle.std.specs.List.{Contains}
use Rattle.std.proofs.Math.Nat.{eq_of_mul-eq-mul_right}
use Rattle.wheel_types.specs.declared.channel.Channel.TheVariants.{Crank}
use Rattle.wheel_types.specs.declared.parts.WheelParts.{WheelParts}
use Rattle.wheel_types.specs.Edges.{edge_count}
use Rattle.motion_bounds.specs.Times.{least_of, greatest_of}
use Rattle.gap_thresholds.specs.declared.cut.Cut.{Cut}
use Rattle.gap_thresholds.specs.Fractions.{IsLowest, IsEqual}
use Rattle.gap_thresholds.specs.Gaps.{IsCutOfGap, IsCutOfGaps, IsTimeCut, IsRatioCut}
use Rattle.gap_thresholds.proofs.Lowest.{same_lowest}
use Rattle.gap_thresholds.proofs.Whole.{same_cut}
use Rattle.gap_thresholds.proofs.Listed.{Before}
use Rattle.gap_thresholds.proofs.EdgeGaps.{gap, gap_after, is_gap, are_gaps, gap_of, gaps_of}

-- a cut of the gap after edge j
abbrev pub IsTimeCutAt : WheelParts → ℕ → Cut → Type 0
IsTimeCutAt w j c = IsCutOfGap w (gap w j) c

-- a cut of that gap and the one that follows it
abbrev pub IsRatioCutAt : WheelParts → ℕ → Cut → Type 0
IsRatioCutAt w j c = IsCutOfGaps w (gap w j) (gap_after w j) c

-- a list that has the cuts of every edge of a cycle has the cuts of the wheel
pub all_times : (w : WheelParts) (n : ℕ) (cuts : List Cut) → 0 < edge_count w Crank → n ≡ edge_count w Crank → ((c : Cut) → Contains cuts c ↔ Before (IsTimeCutAt w) n c) → (c : Cut) → Contains cuts c ↔ IsTimeCut w c
all_times w n cuts some e has c = (λ h. to ((has c).0 h), λ t. (has c).1 (from t))
  where
    to : Before (IsTimeCutAt w) n c → IsTimeCut w c
    to (j, h, p) = (gap w j, (is_gap w j, p))

    from : IsTimeCut w c → Before (IsTimeCutAt w) n c
    from (s, (g, p)) = let j = gap_of w s some g in (j.0, omega (arith, e, j.1), subst (λ n. IsCutOfGap w n c) j.2 p)

pub all_ratios : (w : WheelParts) (n : ℕ) (cuts : List Cut) → 0 < edge_count w Crank → n ≡ edge_count w Crank → ((c : Cut) → Contains cuts c ↔ Before (IsRatioCutAt w) n c) → (c : Cut) → Contains cuts c ↔ IsRatioCut w c
all_ratios w n cuts some e has c = (λ h. to ((has c).0 h), λ t. (has c).1 (from t))
  where
    to : Before (IsRatioCutAt w) n c → IsRatioCut w c
    to (j, h, p) = (gap w j, (gap_after w j, (are_gaps w j, p)))

    from : IsRatioCut w c → Before (IsRatioCutAt w) n c
    from (s0, (s1, (g, p))) = let j = gaps_of w s0 s1 some g in (j.0, omega (arith, e, j.1), subst (λ n. IsCutOfGaps w (gap w j.0) n c) j.3 (subst (λ n. IsCutOfGaps w n s1 c) j.2 p))

-- a cut of a gap is one of these two
pub only_times : (w : WheelParts) (s : ℕ) (a b : Cut) → a.top ≡ least_of w s → a.bottom ≡ 1 → b.top ≡ greatest_of w s + 1 → b.bottom ≡ 1 → (c : Cut) → IsCutOfGap w s c → (c ≡ a) ⊎ (c ≡ b)
only_times w s a b p q u v c (e, inl f) = inl (same_cut c a (f ∙ sym p) (e ∙ sym q))
only_times w s a b p q u v c (e, inr f) = inr (same_cut c b (f ∙ sym u) (e ∙ sym v))

crossed : (a b c d n m : ℕ) → 0 < m → a * m ≡ n * b → c * m ≡ n * d → a * d ≡ c * b
crossed a b c d n m h e f =
    let left : a * m * d ≡ n * b * d = ap (λ k. k * d) e in
    let right : c * m * b ≡ n * d * b = ap (λ k. k * b) f in
    let same : a * d * m ≡ c * b * m = omega (arith, left, right) in
    eq_of_mul-eq-mul_right m h (a * d) (c * b) same

-- fractions in lowest terms that are equal to one fraction are one
pub one_in_lowest : (c d : Cut) (top bottom : ℕ) → 0 < bottom → IsLowest c → IsLowest d → IsEqual c top bottom → IsEqual d top bottom → c ≡ d
one_in_lowest c d top bottom h p q e f = same_lowest c d p q (crossed c.top c.bottom d.top d.bottom top bottom h e f)

-- a cut of two gaps is one of these two
pub only_ratios : (w : WheelParts) (s0 s1 : ℕ) (a b : Cut) → 0 < s0 * w.rn → 0 < s0 * w.rd → IsCutOfGaps w s0 s1 a → IsCutOfGaps w s0 s1 b → IsEqual a (s1 * w.rd) (s0 * w.rn) → IsEqual b (s1 * w.rn) (s0 * w.rd) → (c : Cut) → IsCutOfGaps w s0 s1 c → (c ≡ a) ⊎ (c ≡ b)
only_ratios w s0 s1 a b h k p q e f c (low, inl g) = inl (one_in_lowest c a _ _ h low p.0 g e)
only_ratios w s0 s1 a b h k p q e f c (low, inr g) = inr (one_in_lowest c b _ _ k low q.0 g f)
