-- Spans of angles, and where in them cams stand.
use Rattle.std.specs.Prelude.{◌≡◌, ℕ, ◌+◌, ◌↔◌, ℤ, pos, ◌≤ℤ◌, ◌<ℤ◌}
use Rattle.wheel_types.specs.declared.channel.Channel.{Channel}
use Rattle.wheel_types.specs.declared.channel.Channel.TheVariants.{Crank}
use Rattle.wheel_types.specs.declared.parts.WheelParts.{WheelParts}
use Rattle.wheel_types.specs.Edges.{angle_of}
use Rattle.wheel_types.specs.Motions.{CamStands}
use Rattle.cam_ranges.specs.declared.span.Span.{Span}
use Rattle.cam_ranges.specs.declared.span.Candidates.{Candidates}

-- the angle is one of the span
abbrev pub IsIn : Span → ℤ → Type 0
IsIn s x = (s.low ≤ℤ x) × (x ≤ℤ s.high)

-- the span goes from crank edge j to the next
pub record IsGap (w : WheelParts) (j : ℕ) (s : Span) : Type 0 where
  pub low : s.low ≡ angle_of w Crank (pos j)
  pub high : s.high ≡ angle_of w Crank (pos (j + 1))

-- at some angle of the span the cam stands with edge n next
abbrev pub StandsIn : WheelParts → Channel → ℤ → Span → Type 0
StandsIn w c n s = (x : ℤ) × (IsIn s x × CamStands w c n x)

-- the part has the angles of the span at which the cam stands with edge n next, and no others
abbrev pub IsPart : WheelParts → Channel → ℤ → Span → Span → Type 0
IsPart w c n s part = (x : ℤ) → IsIn part x ↔ (IsIn s x × CamStands w c n x)

-- the edge is one of the candidates
abbrev pub IsCandidate : Candidates → ℤ → Type 0
IsCandidate r n = (r.first ≤ℤ n) × (n <ℤ r.end)
