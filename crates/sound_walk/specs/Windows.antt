-- The windows of a walk, and the verdicts of its report. Lists of instants and of verdicts have the last one first.
use Rattle.std.specs.Prelude.{ℕ, ◌==◌, List, [], ◌∷◌, slice_index, if◌then◌else◌}
use Rattle.wheel_types.specs.declared.channel.Channel.TheVariants.{Crank}
use Rattle.wheel_types.specs.declared.instant.Instant.{Instant}
use Rattle.wheel_types.specs.declared.verdict.Verdict.{Verdict}
use Rattle.wheel_types.specs.declared.verdict.Verdict.TheVariants as verdict
use Rattle.wheel_types.specs.Edges.{edge_slots}
use Rattle.wheel_types.specs.Starts.{start_of}
use Rattle.image_layout.specs.declared.kind.Kind.{Kind}
use Rattle.image_layout.specs.declared.kind.Kind.TheVariants.{Dead, At, Open}
use Rattle.image_layout.specs.Fields.{entry_at, place_at, wheel_parts_of}
use Rattle.image_format.specs.Walk.{Stand, shape_letter, end_state, answer, stand_after}

-- the instants of the window that the next instant comes into, where an instant came into a window with those before it
abbrev pub window_next : List ℕ → Stand → Instant → List Instant → List Instant
window_next b s i before =
    if end_state b s i == 0
    then (if s.started then (if entry_at b 1 (shape_letter b i) == 0 then [] else i ∷ []) else [])
    else i ∷ before

-- the instants of the window that the instant after these comes into
abbrev pub window_after : List ℕ → List Instant → List Instant
window_after b [] = []
window_after b (i ∷ past) = window_next b (stand_after b past) i (window_after b past)

-- what a report says of a kind: a position with the slot of its crank edge, or two places, taken back to where motions began that end
-- there
abbrev pub reported : List ℕ → List Instant → Kind → Verdict
reported b since Dead = verdict.Lost
reported b since (At j) = verdict.At j (slice_index (edge_slots (wheel_parts_of b) Crank) j)
reported b since (Open e f) =
    verdict.Open (start_of (wheel_parts_of b) since (place_at b e)) (start_of (wheel_parts_of b) since (place_at b f))

-- the verdict of the instant i, after those of the past
abbrev pub verdict_at : List ℕ → List Instant → Instant → Verdict
verdict_at b past i = reported b (i ∷ window_after b past) (answer b (stand_after b past) i)

-- the verdicts of the walk's report
abbrev pub verdicts_of : List ℕ → List Instant → List Verdict
verdicts_of b [] = []
verdicts_of b (i ∷ past) = verdict_at b past i ∷ verdicts_of b past
