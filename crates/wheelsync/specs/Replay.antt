-- The command `replay`.
use Rattle.std.specs.Prelude.{◌≡◌, ℕ, List, None, Some, Result}
use Rattle.std.specs.declared.option.Option.{Option}
use Rattle.shelf_traits.specs.Shelf.{View}
use Rattle.wheel_types.specs.declared.parts.WheelParts.{WheelParts}
use Rattle.capture_core.specs.declared.capture.Capture.{Capture}
use Rattle.command_words.specs.Options.{Options}
use Rattle.run_ends.specs.declared.cause.Done.{Done}
use Rattle.run_ends.specs.declared.cause.Cause.{Cause}
use Rattle.run_ends.specs.Works.{Work}
use Rattle.run_ends.specs.Lines.{MarkedLine, WritesLines}
use Rattle.run_ends.specs.Stages.{Opens, Closes, Takes}
use Rattle.run_files.specs.Causes.{FileGives, ended_by}
use Rattle.table_models.specs.Models.{ReadsModel}
use Rattle.named_captures.specs.Captures.{HasNamedCapture}
use Rattle.certified_replay.specs.Certified.{IsCertified}
use Rattle.wheelsync.specs.Reported.{AreReported}

-- these lines and this end are due for a capture over a wheel
abbrev pub IsReported : WheelParts → Capture → List MarkedLine → Result Done Cause → Type 0
IsReported w c all end = AreReported w c.instants all × (end ≡ ended_by c.end)

-- The capture is read over the wheel; the report of its instants is written, and the run ends as the capture does.
abbrev pub IsReplayPast : View → WheelParts → (capture : List ℕ) → Options → Work → Type 0
IsReplayPast v w capture o = Takes v (FileGives v.file capture) (HasNamedCapture v.file capture w o) (λ c. WritesLines (IsReported w c))

-- The capture is opened, and that work is done; the taps, whose tails are these past any marks, are told of it, and closed at its end.
abbrev pub IsReplayOver : View → (tails : List ℕ → List ℕ) → WheelParts → (capture : List ℕ) → Options → Work → Type 0
IsReplayOver v tails w capture o = Opens v capture (Closes tails (IsReplayPast v w capture o))

-- The model is read, and is a sound image or the file of a wheel that has one; then the capture is replayed over its wheel.
abbrev pub IsReplay : View → (tails : List ℕ → List ℕ) → (model capture : List ℕ) → Options → Work → Type 0
IsReplay v tails model capture o = ReadsModel v model (λ w. IsReplayOver v tails w capture o)

-- a replay, with a certificate where a file is to get one
abbrev pub IsReplayed : View → (tails : List ℕ → List ℕ) → (model capture : List ℕ) → (cert : Option (List ℕ)) → Options → Work → Type 0
IsReplayed v tails model capture None o = IsReplay v tails model capture o
IsReplayed v tails model capture (Some cert) o = IsCertified v tails model capture cert o
