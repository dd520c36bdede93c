-- Two verdicts of the same instants are of one kind.
use Rattle.std.proofs.Common.{◌≡◌, sym, ◌∙◌, ap, List}
use Rattle.std.specs.Prelude.{slice_index}
use Rattle.wheel_types.specs.declared.parts.WheelParts.{WheelParts}
use Rattle.wheel_types.specs.declared.instant.Instant.{Instant}
use Rattle.wheel_types.specs.declared.verdict.Verdict.{Verdict}
use Rattle.wheel_types.specs.declared.verdict.Verdict.TheVariants.{At, Open, Lost}
use Rattle.wheel_types.specs.declared.channel.Channel.TheVariants.{Crank}
use Rattle.wheel_types.specs.Edges.{edge_slots}
use Rattle.wheel_types.specs.Verdicts.{IsVerdict}
use Rattle.plain_motion.specs.Laws.{SameKind}

pub one : (w : WheelParts) (past : List Instant) (v u : Verdict) → IsVerdict w past v → IsVerdict w past u → SameKind v u
one w past (At j slot) (At k other) v u =
    let same : j ≡ k = sym (v.1 v.0.0 v.0.1) ∙ u.1 v.0.0 v.0.1 in
    (same, v.2 ∙ ap (slice_index (edge_slots w Crank)) same ∙ sym u.2)
one w past (At j slot) (Open a b) v u = u.3.holds.1 (v.1 u.1 u.3.holds.0 ∙ sym (v.1 u.0 u.2.holds))
one w past (At j slot) Lost v u = u v.0.0 v.0.1
one w past (Open a b) (At j slot) v u = v.3.holds.1 (u.1 v.1 v.3.holds.0 ∙ sym (u.1 v.0 v.2.holds))
one w past (Open a b) (Open c d) v u = tt
one w past (Open a b) Lost v u = u v.0 v.2.holds
one w past Lost (At j slot) v u = v u.0.0 u.0.1
one w past Lost (Open a b) v u = v u.0 u.2.holds
one w past Lost Lost v u = tt
