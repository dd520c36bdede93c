-- The verdict of what a window keeps.
use Rattle.std.proofs.Common.{◌≡◌, ◌≢◌, ℕ, ◌⊎◌, inl, inr, List, arith}
use Rattle.std.specs.Prelude.{Some, None, slice_index}
use Rattle.wheel_types.specs.declared.channel.Channel.TheVariants.{Crank}
use Rattle.wheel_types.specs.declared.instant.Instant.{Instant}
use Rattle.wheel_types.specs.declared.verdict.Verdict.TheVariants.{At, Open, Lost}
use Rattle.wheel_types.specs.declared.parts.WheelParts.{WheelParts}
use Rattle.wheel_types.specs.Edges.{edge_slots}
use Rattle.wheel_types.specs.Verdicts.{IsVerdict}
use Rattle.plain_motion.specs.declared.window.Walk.{Walk}
use Rattle.plain_motion.specs.declared.window.Window.{Window}
use Rattle.plain_motion.specs.Ends.{Keeps, IsLeastBut}

pub judged_lost : (w : WheelParts) (s : Window) (past : List Instant) → IsLeastBut s.walks None None → Keeps w s past → IsVerdict w past Lost
judged_lost w s past h k = λ p e. h (record { start = e.0; end = p }) ((k.walks e.0 p).1 e.1) tt

same_or_not : (a b : ℕ) → (a ≡ b) ⊎ (a ≢ b)
same_or_not a b = grind arith

same_unless : (a b : ℕ) → (a ≢ b → ⊥) → (a ≡ b) ⊎ (a ≢ b) → a ≡ b
same_unless a b h (inl e) = e
same_unless a b h (inr n) = absurd (h n)

pub judged_at : (w : WheelParts) (s : Window) (past : List Instant) (v : Walk) (slot : ℕ) → IsLeastBut s.walks None (Some v) → IsLeastBut s.walks (Some v.end.j) None → slot ≡ slice_index (edge_slots w Crank) v.end.j → Keeps w s past → IsVerdict w past (At v.end.j slot)
judged_at w s past v slot first none at k = (
  (v.end, (v.start, (k.walks v.start v.end).0 first.0)),
  λ p e. same_unless p.j v.end.j (none (record { start = e.0; end = p }) ((k.walks e.0 p).1 e.1)) (same_or_not p.j v.end.j),
  at,
)

pub judged_open : (w : WheelParts) (s : Window) (past : List Instant) (v u : Walk) → IsLeastBut s.walks None (Some v) → IsLeastBut s.walks (Some v.end.j) (Some u) → Keeps w s past → IsVerdict w past (Open v.start u.start)
judged_open w s past v u first second k =
    let leads = (k.walks v.start v.end).0 first.0 in
    let other = (k.walks u.start u.end).0 second.0 in (
      v.end,
      u.end,
      record { holds = (v.start, leads); least = λ p e. first.2 (record { start = e.0; end = p }) ((k.walks e.0 p).1 e.1) tt },
      record { holds = ((u.start, other), second.1); least = λ p h. second.2 (record { start = h.0.0; end = p }) ((k.walks h.0.0 p).1 h.0.1) h.1 },
      leads,
      other,
    )
