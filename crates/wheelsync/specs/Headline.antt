-- What a report says: at each instant what the edges since the last reset prove.
use Rattle.std.specs.Prelude.{◌≡◌, ◌↔◌, ℕ, List, reverse}
use Rattle.wheel_types.specs.declared.parts.WheelParts.{WheelParts}
use Rattle.wheel_types.specs.declared.instant.Instant.{Instant}
use Rattle.wheel_types.specs.declared.verdict.Verdict.{Verdict}
use Rattle.wheel_types.specs.Verdicts.{AreGiven, IsVerdict}
use Rattle.wheel_types.specs.Texts.{report_text}
use Rattle.wheelsync.specs.Sayings.{SaysAt, SaysOpen, SaysLost, AllEndAt, TwoEndApart, Each, SinceReset}

-- the text is the report of the instants over the wheel; the lists of verdicts and of windows have the last one first
pub record IsReport (w : WheelParts) (instants : List Instant) (text : List ℕ) : Type 0 where
  pub verdicts : List Verdict
  pub windows : List (List Instant)
  pub next : List Instant
  -- a loss resets, and the losing instant begins the next window wherever it can
  pub resets : SinceReset w (reverse instants) verdicts windows next
  -- `at p` exactly where some permitted motion gives the instants since the last reset and all such end at p
  pub at : Each (λ since v. (p : ℕ) → SaysAt p v ↔ (AreGiven w since × AllEndAt w since p)) windows verdicts
  -- `open` exactly where two permitted motions end apart
  pub «open» : Each (λ since v. SaysOpen v ↔ TwoEndApart w since) windows verdicts
  -- `lost` exactly where there is none
  pub lost : Each (λ since v. SaysLost v ↔ (¬ AreGiven w since)) windows verdicts
  -- the slot and the start places that a line prints
  pub printed : Each (λ since v. IsVerdict w since v) windows verdicts
  -- one line for each instant, and nothing else
  pub nothing_else : text ≡ report_text 1 instants (reverse verdicts)
