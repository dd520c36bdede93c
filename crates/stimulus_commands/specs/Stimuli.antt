-- Whether a wheel has a stimulus, and the causes for which it has none.
use Rattle.std.specs.Prelude.{ℕ}
use Rattle.wheel_types.specs.declared.parts.WheelParts.{WheelParts}
use Rattle.stimulus.specs.Causes.{HasFewEdges, HasManyEdges}
use Rattle.stimulus.specs.Gaps.{HasTimes, IsStuck}
use Rattle.run_ends.specs.declared.cause.Cause.{Cause}
use Rattle.run_ends.specs.declared.cause.Cause.TheVariants as cause
use Rattle.run_ends.specs.declared.cause.Limit.TheVariants as limit
use Rattle.run_ends.specs.declared.cause.Refusal.TheVariants as refusal

-- each gap has a time that keeps the limits, and there are not too many edges
abbrev pub HasStimulus : WheelParts → (seed gaps : ℕ) → Type 0
HasStimulus w seed gaps = HasTimes w seed gaps × HasFewEdges w seed gaps

-- a wheel, a seed and so many gaps give this cause: a gap is stuck, or each has a time and there are too many edges
abbrev pub StimGives : WheelParts → (seed gaps : ℕ) → Cause → Type 0
StimGives w seed gaps (cause.Refused (refusal.Stuck gap low high)) = IsStuck w seed gaps gap low high
StimGives w seed gaps (cause.Limit limit.Edges) = HasTimes w seed gaps × HasManyEdges w seed gaps
StimGives w seed gaps e = ⊥
