-- The report of an image's walk. Lists of instants have the last one first.
use Rattle.std.specs.Prelude.{ℕ, List, [], ◌∷◌, length, Option, Some, None}
use Rattle.wheel_types.specs.declared.instant.Instant.{Instant}
use Rattle.wheel_types.specs.declared.verdict.Report.{Report}
use Rattle.wheel_types.specs.declared.verdict.Verdict.{Verdict}
use Rattle.wheel_types.specs.declared.verdict.Verdict.TheVariants.{At, Open, Lost}
use Rattle.wheel_types.specs.Shapes.{shape_number}
use Rattle.sound_walk.specs.Windows.{verdict_at}
use Rattle.replay_core.specs.Counts.{cut_place}

-- the verdict with the places of an open one cut down
abbrev pub cut_verdict : Verdict → Verdict
cut_verdict Lost = Lost
cut_verdict (At j slot) = At j slot
cut_verdict (Open a b) = Open (cut_place a) (cut_place b)

-- the line of the instant i, after those of the past: its number, counted from 1, its time, its shape, and the verdict of the walk
abbrev pub line_at : List ℕ → List Instant → Instant → Report
line_at b past i = record {
  index = length (i ∷ past);
  time = i.time;
  shape = shape_number i.crank i.cam1 i.cam2;
  verdict = cut_verdict (verdict_at b past i);
}

-- the verdict of the last instant's line, where there is one
abbrev pub last_verdict : List ℕ → List Instant → Option Verdict
last_verdict b [] = None
last_verdict b (i ∷ past) = Some ((line_at b past i).verdict)
