-- What a session makes of its machine's verdict.
use Rattle.std.specs.Prelude.{ℕ, ◌<◌, List, Bool, slice_index, if◌then◌else◌, ⊤}
use Rattle.wheel_types.specs.declared.channel.Channel.TheVariants.{Crank}
use Rattle.wheel_types.specs.declared.instant.Instant.{Instant}
use Rattle.wheel_types.specs.declared.verdict.Verdict.{Verdict}
use Rattle.wheel_types.specs.declared.verdict.Verdict.TheVariants as verdict
use Rattle.wheel_types.specs.Edges.{edge_slots}
use Rattle.image_layout.specs.Layout.{place_total}
use Rattle.image_layout.specs.Fields.{place_at, crank_total, wheel_parts_of}
use Rattle.sync_machine.specs.declared.verdict.MachineVerdict.{MachineVerdict}
use Rattle.sync_machine.specs.declared.verdict.MachineVerdict.TheVariants.{At, Open, Lost}
use Rattle.replay_core.specs.declared.counts.EdgeCounts.{EdgeCounts}
use Rattle.replay_core.specs.Counts.{with_edges, no_edges, place_back}

-- its numbers are those of a crank edge, or of places, of the image
abbrev pub IsIn : List ℕ → MachineVerdict → Type 0
IsIn b Lost = ⊤
IsIn b (At j) = j < crank_total b
IsIn b (Open e f) = (e < place_total b) × (f < place_total b)

-- the verdict of a line, in a window with so many edges
abbrev pub told_verdict : List ℕ → EdgeCounts → MachineVerdict → Verdict
told_verdict b seen Lost = verdict.Lost
told_verdict b seen (At j) = verdict.At j (slice_index (edge_slots (wheel_parts_of b) Crank) j)
told_verdict b seen (Open e f) =
    verdict.Open (place_back (wheel_parts_of b) seen (place_at b e)) (place_back (wheel_parts_of b) seen (place_at b f))

-- the edges of the window that the next instant comes into, which has an instant or not, where the instant's own window had these
abbrev pub next_counts : Bool → MachineVerdict → Instant → EdgeCounts → EdgeCounts
next_counts started Lost i seen = if started then with_edges i no_edges else no_edges
next_counts started (At j) i seen = seen
next_counts started (Open e f) i seen = seen
