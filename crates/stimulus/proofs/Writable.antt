-- The edges of each channel of a stimulus can be written.
use Rattle.std.proofs.Common.{◌≡◌, ℕ, zero, suc, ◌+◌, ◌<◌, ◌≤◌, ◌^◌, Bool, true, false, not, refl, sym, ◌∙◌, ap, subst, arith, ℤ, pos}
use Rattle.std.proofs.Common.{◌+ℤ◌, ◌<ℤ◌, ◌≤ℤ◌}
use Rattle.std.proofs.lemmas.Int.{ints}
use Rattle.std.specs.Prelude.{Some, int_lt, unsigned_abs, slice_index, is_some}
use Rattle.wheel_types.specs.declared.channel.Pol.{Pol}
use Rattle.wheel_types.specs.declared.channel.Pol.TheVariants.{Rise, Fall}
use Rattle.wheel_types.specs.declared.channel.Keep.{Keep}
use Rattle.wheel_types.specs.declared.channel.Keep.TheVariants.{Rising, Falling, Both}
use Rattle.wheel_types.specs.declared.channel.Channel.{Channel}
use Rattle.wheel_types.specs.declared.channel.Channel.TheVariants.{Crank}
use Rattle.wheel_types.specs.declared.parts.WheelParts.{WheelParts}
use Rattle.wheel_types.specs.Wheels.{IsWheel}
use Rattle.wheel_types.specs.Edges.{below, slot_before, slot_count, edge_at, edge_count, edge_slots, level_of, keep_of, kept, change}
use Rattle.wheel_types.specs.Edges.{pol_to, pol_of, number_of}
use Rattle.wheel_types.proofs.Unrolled.{number_below}
use Rattle.capture_core.specs.Changes.{IsKept, level_after}
use Rattle.stimulus_files.specs.Changes.{Edge}
use Rattle.stimulus_files.specs.Written.{Follows}
use Rattle.stimulus.specs.Gaps.{crank_edge, crank_angle, crank_time, HasTimes}
use Rattle.stimulus.specs.Cams.{cam_edge, cam_angle, IsInGap, time_in}
use Rattle.stimulus.specs.Drawn.{crank_edge_at, cam_edge_at, IsEdgeIn}
use Rattle.stimulus.specs.Laws.{other}
use Rattle.stimulus.proofs.Alternating.{alternate, passes, is_some-of, in_slots}
use Rattle.stimulus.proofs.CamAngles.{first_after_crank}
use Rattle.stimulus.proofs.CamMoves.{cam_angles_rise, cams_ascend, one_gap}
use Rattle.stimulus.proofs.Times.{at_edge, before_end, crank_angle_at, crank_later, crank_time_at, edge_in_gap}
use Rattle.stimulus.proofs.TimesApart.{times_apart}
use Rattle.stimulus.proofs.TimesWithin.{crank_within}
use Rattle.stimulus.proofs.Numbered.{AreNumbered}

-- ---- polarities

-- a kept edge has a kept polarity
kept_pol : (keep : Keep) (a b : ℕ) (p : Pol) → kept keep (change a b) ≡ Some p → IsKept keep (pol_to b)
kept_pol Both a b p e = tt
kept_pol Rising zero zero p e = cc
kept_pol Rising zero (suc b) p e = tt
kept_pol Rising (suc a) zero p e = cc
kept_pol Rising (suc a) (suc b) p e = cc
kept_pol Falling zero zero p e = cc
kept_pol Falling zero (suc b) p e = cc
kept_pol Falling (suc a) zero p e = tt
kept_pol Falling (suc a) (suc b) p e = cc

is_kept : (w : WheelParts) (c : Channel) (m : ℤ) → 0 < edge_count w c → IsKept (keep_of w c) (pol_of w c m)
is_kept w c m some =
    let k = slice_index (edge_slots w c) (number_of (edge_count w c) m) in
    let s = is_some-of (edge_at w c k)
    (passes (λ j. is_some (edge_at w c j)) k (below (slot_count w))
    (in_slots w c (number_of (edge_count w c) m) (number_below (edge_count w c) m some))) in
    kept_pol (keep_of w c) (level_of w c (slot_before w k)) (level_of w c k) s.0 s.1

other_level : (p : Pol) → level_after (other p) ≡ not (level_after p)
other_level Rise = refl
other_level Fall = refl

-- the next edge of a channel goes the other way where both polarities are kept
turn : (keep : Keep) (w : WheelParts) (c : Channel) (m : ℤ) (e f : Edge) → keep_of w c ≡ keep → 0 < edge_count w c
    → e.polarity ≡ pol_of w c m → f.polarity ≡ pol_of w c (m +ℤ pos 1) → Follows keep e f
turn Rising w c m e f k some p q = tt
turn Falling w c m e f k some p q = tt
turn Both w c m e f k some p q =
    ap level_after (q ∙ alternate w c m k some) ∙ other_level (pol_of w c m) ∙ ap (λ (r : Pol). not (level_after r)) (sym p)

next_one : (n : ℕ) → pos n +ℤ pos 1 ≡ pos (suc n)
next_one n = omega (arith, ints)

one_on : (a n : ℕ) → pos (a + n) +ℤ pos 1 ≡ pos (a + suc n)
one_on a n = omega (arith, ints)

time_of : (e f : Edge) → e ≡ f → e.time ≡ f.time
time_of e f h = ap (λ (v : Edge). v.time) h

pol_is : (e f : Edge) → e ≡ f → e.polarity ≡ f.polarity
pol_is e f h = ap (λ (v : Edge). v.polarity) h

apart_z : (a b : ℕ) (x y : ℤ) → a + 2 ≤ b → x ≡ pos a → y ≡ pos b → (x +ℤ pos 2) ≤ℤ y
apart_z a b x y h e f = omega (arith, ints, h, e, f)

later_z : (a : ℕ) (x : ℤ) → 10 ^ 12 ≤ a → x ≡ pos a → pos 0 <ℤ x
later_z a x h e = omega (arith, ints, h, e)

-- no crank edge is before the first
from_first : (w : WheelParts) (seed i : ℕ) → 10 ^ 12 ≤ crank_time w seed i
from_first w seed i = let h : crank_time w seed 0 ≤ crank_time w seed i = crank_time_at w seed 0 i (omega arith) in omega (arith, h)

strictly : (a b c : ℤ) → (a +ℤ pos 1) ≤ℤ b → b ≤ℤ c → a <ℤ c
strictly a b c h k = omega (arith, ints, h, k)

crank_before : (w : WheelParts) (seed m n : ℕ) → IsWheel w → m < n → crank_angle w seed m <ℤ crank_angle w seed n
crank_before w seed m n wheel h = strictly _ _ _ (crank_later w seed m wheel) (crank_angle_at w seed (m + 1) n wheel (omega (arith, h)))

-- ---- the crank's edges by their numbers

abbrev pub IsCrank : WheelParts → ℕ → ℕ → ℕ → Edge → Type 0
IsCrank w seed gaps i e = (i ≤ gaps) × (e ≡ crank_edge_at w seed i)

pub crank_numbered : (w : WheelParts) (seed gaps : ℕ) → IsWheel w → HasTimes w seed gaps → AreNumbered w.crank (IsCrank w seed gaps)
crank_numbered w seed gaps wheel times = record {
  apart = λ m n e f l i j. apart_z (crank_time w seed m) (crank_time w seed n) e.time f.time (long m n l (omega (arith, l, j.0)))
      (time_of e _ i.1) (time_of f _ j.1);
  same = λ n e f i j. i.1 ∙ sym j.1;
  filled = λ m n f l i. (crank_edge_at w seed m, (let h = i.0 in omega (arith, l, h), refl));
  kept = λ n e i. subst (IsKept w.crank) (sym (pol_is e _ i.1)) (is_kept w Crank (crank_edge w seed n) some);
  turns = λ n e f i j. turn w.crank w Crank (crank_edge w seed n) e f refl some (pol_is e _ i.1)
      (pol_is f _ j.1 ∙ ap (pol_of w Crank) (sym (next_crank n)));
  after = λ n e i. later_z (crank_time w seed n) e.time (from_first w seed n) (time_of e _ i.1);
}
  where
    some : 0 < edge_count w Crank
    some = let h = wheel.crank_edge in omega (arith, h)

    next_crank : (n : ℕ) → crank_edge w seed n +ℤ pos 1 ≡ crank_edge w seed (suc n)
    next_crank n = one_on _ n

    long : (m n : ℕ) → m < n → m < gaps → crank_time w seed m + 2 ≤ crank_time w seed n
    long m n l h =
        let t = times_apart w seed m n (crank_angle w seed m) (crank_angle w seed n) wheel (times m h) (edge_in_gap w seed m wheel)
        (edge_in_gap w seed n wheel) (crank_before w seed m n wheel l) in
        subst (λ k. k + 2 ≤ crank_time w seed n) (at_edge w seed m)
        (subst (λ k. time_in w seed m (crank_angle w seed m) + 2 ≤ k) (at_edge w seed n) t)

-- ---- a cam's edges by their numbers

abbrev pub IsCam : WheelParts → Channel → ℕ → ℕ → ℕ → Edge → Type 0
IsCam w c seed gaps k e = (i : ℕ) × (i < gaps) × IsEdgeIn w c seed i k e

-- an angle from the first crank edge on and before another is in one of the gaps
gap_of : (w : WheelParts) (seed i : ℕ) (x : ℤ) → crank_angle w seed 0 ≤ℤ x → x <ℤ crank_angle w seed (i + 1)
    → (j : ℕ) × (j ≤ i) × IsInGap w seed j x
gap_of w seed zero x h k = (0, omega arith, record { from = h; before = k })
gap_of w seed (suc i) x h k = by (int_lt x (crank_angle w seed (i + 1))) refl (λ l. gap_of w seed i x h l)
  where
    before : (a b : ℤ) → int_lt a b ≡ true → a <ℤ b
    before a b e = grind (arith, ints)

    from : (a b : ℤ) → int_lt a b ≡ false → b ≤ℤ a
    from a b e = grind (arith, ints)

    one : (i : ℕ) → i + 1 ≡ suc i
    one i = omega arith

    by : (b : Bool) → int_lt x (crank_angle w seed (i + 1)) ≡ b
        → (x <ℤ crank_angle w seed (i + 1) → (j : ℕ) × (j ≤ i) × IsInGap w seed j x) → (j : ℕ) × (j ≤ suc i) × IsInGap w seed j x
    by true e more = let g = more (before _ _ e) in (g.0, (let l = g.1 in omega (arith, l)), g.2)
    by false e more = (suc i, omega arith, record { from = subst (λ n. crank_angle w seed n ≤ℤ x) (one i) (from _ _ e); before = k })

pub cam_numbered : (w : WheelParts) (c : Channel) (seed gaps : ℕ) → IsWheel w → HasTimes w seed gaps → 0 < edge_count w c
    → AreNumbered (keep_of w c) (IsCam w c seed gaps)
cam_numbered w c seed gaps wheel times some = record {
  apart = λ m n e f l i j. apart_z _ _ e.time f.time
      (times_apart w seed i.0 j.0 (cam_angle w c seed m) (cam_angle w c seed n) wheel
      (times i.0 i.1) i.2.gap j.2.gap (cam_angles_rise w c seed m n wheel some l)) (time_of e _ i.2.edge) (time_of f _ j.2.edge);
  same = λ n e f i j. i.2.edge ∙ ap (λ g. cam_edge_at w c seed g n) (one_gap w seed i.0 j.0 (cam_angle w c seed n) wheel i.2.gap j.2.gap)
      ∙ sym j.2.edge;
  filled = λ m n f l i. fill m n i.0 l i.1 i.2.gap;
  kept = λ n e i. subst (IsKept (keep_of w c)) (sym (pol_is e _ i.2.edge)) (is_kept w c (cam_edge w c seed n) some);
  turns = λ n e f i j. turn (keep_of w c) w c (cam_edge w c seed n) e f refl some (pol_is e _ i.2.edge)
      (pol_is f _ j.2.edge ∙ ap (pol_of w c) (sym (one_on _ n)));
  after = λ n e i. later_z _ e.time (late i.0 n) (time_of e _ i.2.edge);
}
  where
    late : (i n : ℕ) → 10 ^ 12 ≤ time_in w seed i (cam_angle w c seed n)
    late i n = let h = from_first w seed i in omega (arith, h)

    below_end : (a b d : ℤ) → a <ℤ b → b <ℤ d → a <ℤ d
    below_end a b d h k = omega (arith, ints, h, k)

    from_start : (a b d : ℤ) → a ≤ℤ b → b ≤ℤ d → a ≤ℤ d
    from_start a b d h k = omega (arith, ints, h, k)

    fill : (m n i : ℕ) → m < n → i < gaps → IsInGap w seed i (cam_angle w c seed n) → (e : Edge) × IsCam w c seed gaps m e
    fill m n i l h g =
        let x = cam_angle w c seed m in
        let from = from_start _ _ _ (first_after_crank w c seed wheel some) (cams_ascend w c seed 0 m wheel some (omega arith)) in
        let before = below_end _ _ _ (cam_angles_rise w c seed m n wheel some l) g.before in
        let j = gap_of w seed i x from before in
        (cam_edge_at w c seed j.0 m, (j.0, (let k = j.1 in omega (arith, k, h)), record { present = some; gap = j.2; edge = refl }))

-- ---- times

pub crank_small : (w : WheelParts) (seed gaps i : ℕ) (e : Edge) → IsWheel w → gaps ≤ 1000000 → HasTimes w seed gaps
    → IsCrank w seed gaps i e → unsigned_abs e.time ≤ 10 ^ 24
crank_small w seed gaps i e wheel few times h =
    let t = crank_within w seed gaps i wheel few times h.0 in
    subst (λ z. unsigned_abs z ≤ 10 ^ 24) (sym (time_of e _ h.1)) t

pub cam_small : (w : WheelParts) (c : Channel) (seed gaps k : ℕ) (e : Edge) → IsWheel w → gaps ≤ 1000000 → HasTimes w seed gaps
    → IsCam w c seed gaps k e → unsigned_abs e.time ≤ 10 ^ 24
cam_small w c seed gaps k e wheel few times h =
    let t = crank_within w seed gaps (suc h.0) wheel few times (let l = h.1 in omega (arith, l)) in
    let b = before_end w seed h.0 (cam_angle w c seed k) wheel (times h.0 h.1) h.2.gap in
    subst (λ z. unsigned_abs z ≤ 10 ^ 24) (sym (time_of e _ h.2.edge)) (omega (arith, t, b))
