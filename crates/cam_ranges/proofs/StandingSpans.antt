-- Where in a span of angles a cam stands.
use Rattle.std.proofs.Common.{◌≡◌, ℕ, ◌*◌, ◌<◌, ◌⊎◌, inl, inr, ◌↔◌, ℤ, pos, ◌+ℤ◌, ◌-ℤ◌, ◌≤ℤ◌, ◌<ℤ◌, subst, arith}
use Rattle.std.proofs.lemmas.Int.{ints, by_lt_z}
use lib.Signed.{≤ℤ_refl}
use Rattle.wheel_types.specs.declared.channel.Channel.{Channel}
use Rattle.wheel_types.specs.declared.parts.WheelParts.{WheelParts}
use Rattle.wheel_types.specs.Edges.{edge_count, slot_count, angle_of, first_angle, last_angle, early_of, late_of}
use Rattle.wheel_types.specs.Motions.{CamStands}
use Rattle.wheel_types.proofs.Rising.{angle_of-rises}

-- the angle is from the one to the other
abbrev pub IsBetween : ℤ → ℤ → ℤ → Type 0
IsBetween low high x = (low ≤ℤ x) × (x ≤ℤ high)

-- a cam stands at an angle between these
abbrev pub StandsBetween : WheelParts → Channel → ℤ → ℤ → ℤ → Type 0
StandsBetween w c n low high = (x : ℤ) × (IsBetween low high x × CamStands w c n x)

-- at most, by way of another
through : {a b c : ℤ} → a ≤ℤ b → b ≤ℤ c → a ≤ℤ c
through {a} {b} {c} h k = omega (arith, ints)

-- ---- a cam without edges

-- a channel does not have both edges and none
none_there : (k : ℕ) → k ≡ 0 → 0 < k → ⊥
none_there k e h = absurd (omega (arith, e, h))

-- it stands with 0 next at every angle
pub absent_stands : (w : WheelParts) (c : Channel) (n x : ℤ) → edge_count w c ≡ 0 → n ≡ pos 0 → CamStands w c n x
absent_stands w c n x none e = record { absent = λ _. e; behind = λ some. absurd (none_there (edge_count w c) none some); ahead = λ some. absurd (none_there (edge_count w c) none some) }

-- 0 is the number from 0 on before 1
only_zero : (n : ℤ) → pos 0 ≤ℤ n → n <ℤ pos 1 → n ≡ pos 0
only_zero n h k = omega (arith, ints)

-- and is such a number
zero_alone : (n : ℤ) → n ≡ pos 0 → (pos 0 ≤ℤ n) × (n <ℤ pos 1)
zero_alone n e = rw e (omega (arith, ints), omega (arith, ints))

-- it stands with 0 alone, at every angle
pub absent_candidates : (w : WheelParts) (c : Channel) (low high n : ℤ) → edge_count w c ≡ 0 → low ≤ℤ high → ((pos 0 ≤ℤ n) × (n <ℤ pos 1)) ↔ StandsBetween w c n low high
absent_candidates w c low high n none some = (
  λ h. (low, ((≤ℤ_refl low, some), absent_stands w c n low none (only_zero n h.0 h.1))),
  λ s. zero_alone n (s.1.1.absent none),
)

-- ---- a cam with edges

-- it stands at an angle from the first of its edge before up to the last of its next
pub present_stands : (w : WheelParts) (c : Channel) (n x : ℤ) → 0 < edge_count w c → first_angle w c (n -ℤ pos 1) ≤ℤ x → x ≤ℤ last_angle w c n → CamStands w c n x
present_stands w c n x some h k = record { absent = λ none. absurd (none_there (edge_count w c) none some); behind = λ _. h; ahead = λ _. k }

-- one back and one on is the same edge
on_and_back : (m : ℤ) → (m -ℤ pos 1) +ℤ pos 1 ≡ m
on_and_back m = omega (arith, ints)

-- angles further apart
widened : (a b : ℤ) (e l : ℕ) → a ≤ℤ b → (a -ℤ pos e) ≤ℤ (b +ℤ pos l)
widened a b e l h = omega (arith, ints)

-- an edge may fall before the next one has to
pub before_last : (w : WheelParts) (c : Channel) (n : ℤ) → 0 < edge_count w c → first_angle w c (n -ℤ pos 1) ≤ℤ last_angle w c n
before_last w c n h = widened (angle_of w c (n -ℤ pos 1)) (angle_of w c n) (early_of w c * slot_count w) (late_of w c * slot_count w) (subst (λ m. angle_of w c (n -ℤ pos 1) ≤ℤ angle_of w c m) (on_and_back n) (angle_of-rises w c (n -ℤ pos 1) h))

-- two spans that meet have an angle in common, the greater one of their first
greater_of : (low first high last : ℤ) → low ≤ℤ high → first ≤ℤ high → low ≤ℤ last → first ≤ℤ last → (x : ℤ) × ((IsBetween low high x) × ((first ≤ℤ x) × (x ≤ℤ last)))
greater_of low first high last a b c d = by_lt_z low first (λ k. (first, ((lower low first k, b), (≤ℤ_refl first, d)))) (λ k. (low, ((≤ℤ_refl low, a), (k, c))))
  where
    lower : (x y : ℤ) → x <ℤ y → x ≤ℤ y
    lower x y h = omega (arith, ints)

-- it stands at some angle of a span where its range of angles and the span meet
pub stands_where_met : (w : WheelParts) (c : Channel) (n low high : ℤ) → 0 < edge_count w c → low ≤ℤ high → first_angle w c (n -ℤ pos 1) ≤ℤ high → low ≤ℤ last_angle w c n → StandsBetween w c n low high
stands_where_met w c n low high h some f l =
    let at = greater_of low (first_angle w c (n -ℤ pos 1)) high (last_angle w c n) some f l (before_last w c n h) in
    (at.0, (at.1.0, present_stands w c n at.0 h at.1.1.0 at.1.1.1))

-- where the last angle is from another on, its edge is from that less the lateness on
late_by : (low a : ℤ) (l : ℕ) → low ≤ℤ (a +ℤ pos l) → (low -ℤ pos l) ≤ℤ a
late_by low a l h = omega (arith, ints)

-- and the other way round
late_again : (low a : ℤ) (l : ℕ) → (low -ℤ pos l) ≤ℤ a → low ≤ℤ (a +ℤ pos l)
late_again low a l h = omega (arith, ints)

-- an edge that can have fallen is not past
not_past : (high a : ℤ) (e : ℕ) → (a -ℤ pos e) ≤ℤ high → ((high +ℤ pos e) +ℤ pos 1) ≤ℤ a → ⊥
not_past high a e h k = absurd (omega (arith, ints))

-- an edge is past or can have fallen
past_else : (high a : ℤ) (e : ℕ) → (((high +ℤ pos e) +ℤ pos 1) ≤ℤ a) ⊎ ((a -ℤ pos e) ≤ℤ high)
past_else high a e = by_lt_z high (a -ℤ pos e) (λ k. inl (omega (arith, ints, k))) (λ k. inr k)

-- an edge whose edge before is not past is before the end
below_end : (n past : ℤ) → (past ≤ℤ (n -ℤ pos 1) → ⊥) → n <ℤ (past +ℤ pos 1)
below_end n past h = by_lt_z n (past +ℤ pos 1) (λ k. k) (λ k. absurd (h (omega (arith, ints, k))))

-- and the other way round
not_from_end : (n past : ℤ) → n <ℤ (past +ℤ pos 1) → past ≤ℤ (n -ℤ pos 1) → ⊥
not_from_end n past h k = absurd (omega (arith, ints))

-- the edges with which it stands somewhere in the span are those from the first that need not have fallen before it, up to
-- the first whose edge before it cannot have fallen within it
pub present_candidates : (w : WheelParts) (c : Channel) (low high first past : ℤ) → 0 < edge_count w c → low ≤ℤ high → ((n : ℤ) → (low -ℤ pos (late_of w c * slot_count w)) ≤ℤ angle_of w c n ↔ first ≤ℤ n) → ((n : ℤ) → ((high +ℤ pos (early_of w c * slot_count w)) +ℤ pos 1) ≤ℤ angle_of w c n ↔ past ≤ℤ n) → (n : ℤ) → ((first ≤ℤ n) × (n <ℤ (past +ℤ pos 1))) ↔ StandsBetween w c n low high
present_candidates w c low high first past h some from until n = (
  λ k. stands_where_met w c n low high h some (fallen (past_else high (angle_of w c (n -ℤ pos 1)) early) (not_from_end n past k.1)) (late_again low (angle_of w c n) late ((from n).1 k.0)),
  λ s. (
    (from n).0 (late_by low (angle_of w c n) late (through s.1.0.0 (s.1.1.ahead h))),
    below_end n past (λ k. not_past high (angle_of w c (n -ℤ pos 1)) early (through (s.1.1.behind h) s.1.0.1) ((until (n -ℤ pos 1)).1 k)),
  ),
)
  where
    early : ℕ
    early = early_of w c * slot_count w

    late : ℕ
    late = late_of w c * slot_count w

    fallen : (((high +ℤ pos early) +ℤ pos 1) ≤ℤ angle_of w c (n -ℤ pos 1)) ⊎ (first_angle w c (n -ℤ pos 1) ≤ℤ high) → (past ≤ℤ (n -ℤ pos 1) → ⊥) → first_angle w c (n -ℤ pos 1) ≤ℤ high
    fallen (inl k) never = absurd (never ((until (n -ℤ pos 1)).0 k))
    fallen (inr k) never = k

-- the angles of a span at which it stands are those from the greater of two on up to the lesser of two
pub present_part : (w : WheelParts) (c : Channel) (n low high x a b : ℤ) → 0 < edge_count w c → (low ≤ℤ x → first_angle w c (n -ℤ pos 1) ≤ℤ x → a ≤ℤ x) → low ≤ℤ a → first_angle w c (n -ℤ pos 1) ≤ℤ a → (x ≤ℤ high → x ≤ℤ last_angle w c n → x ≤ℤ b) → b ≤ℤ high → b ≤ℤ last_angle w c n → IsBetween a b x ↔ (IsBetween low high x × CamStands w c n x)
present_part w c n low high x a b h least low_a first_a most b_high b_last = (
  λ k. ((through low_a k.0, through k.1 b_high), present_stands w c n x h (through first_a k.0) (through k.1 b_last)),
  λ k. (least k.0.0 (k.1.behind h), most k.0.1 (k.1.ahead h)),
)
