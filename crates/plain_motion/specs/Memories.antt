-- What is kept of a wheel's instants. Lists of instants and verdicts have the last one first.
use Rattle.std.specs.Prelude.{◌≡◌, ◌⊎◌, Bool, true, false, List, [], ◌∷◌, Option, Some, None, IfSome, ℤ, ◌<ℤ◌}
use Rattle.wheel_types.specs.declared.instant.Instant.{Instant}
use Rattle.wheel_types.specs.declared.verdict.Verdict.{Verdict}
use Rattle.wheel_types.specs.declared.verdict.Verdict.TheVariants.{Lost}
use Rattle.wheel_types.specs.declared.parts.WheelParts.{WheelParts}
use Rattle.wheel_types.specs.Verdicts.{AreVerdicts, AreGiven, IsVerdict, AllEarlier}
use Rattle.plain_motion.specs.declared.window.Window.{Window}
use Rattle.plain_motion.specs.Ends.{Keeps}

-- the time of the last instant
abbrev pub last_time : List Instant → Option ℤ
last_time [] = None
last_time (i ∷ past) = Some i.time

-- a window and a time are what the instants give, and these are their verdicts
pub record Remembers (w : WheelParts) (s : Window) (last : Option ℤ) (past : List Instant) (verdicts : List Verdict) : Type 0 where
  -- the instants of the window that the next instant comes into
  pub window : List Instant
  pub windows : AreVerdicts w past verdicts window
  pub kept : Keeps w s window
  pub time : last ≡ last_time past
  -- what is later than the last instant is later than each of the window's
  pub earlier : (t : ℤ) → IfSome last (λ u. u <ℤ t) → AllEarlier t window

-- what is kept for the next window after an instant was lost in a window that had instants before it, or had none
abbrev pub BeginsAfter : WheelParts → Bool → Instant → Window → Type 0
BeginsAfter w false i s = Keeps w s []
BeginsAfter w true i s = (AreGiven w (i ∷ []) × Keeps w s (i ∷ [])) ⊎ (IsVerdict w (i ∷ []) Lost × Keeps w s [])
