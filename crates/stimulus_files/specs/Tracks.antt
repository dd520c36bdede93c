-- What is left of a channel's changes while its files are written. Lists of instants, edges and changes are in the order of their times.
use Rattle.std.specs.Prelude.{◌≡◌, ◌≢◌, ℕ, Bool, List, [], ◌∷◌, Option, Some, None, drop, ℤ}
use Rattle.wheel_types.specs.declared.channel.Keep.{Keep}
use Rattle.wheel_types.specs.declared.channel.Channel.{Channel}
use Rattle.wheel_types.specs.declared.instant.Instant.{Instant}
use Rattle.stimulus_files.specs.declared.pending.Mark.{Mark}
use Rattle.stimulus_files.specs.declared.pending.Pending.{Pending}
use Rattle.stimulus_files.specs.declared.pending.Pending.TheVariants.{Nothing, Forth, Back}
use Rattle.stimulus_files.specs.declared.track.Track.{Track}
use Rattle.stimulus_files.specs.Changes.{Edge, edges_on, Change, back_if, change_of, changes_of, first_level}

-- the edge that is marked
abbrev pub edge_of : Mark → Edge
edge_of m = record { time = m.time; polarity = m.polarity }

-- the changes after that of an edge, where these edges follow
abbrev pub changes_after : Keep → Edge → List Edge → List Change
changes_after keep e [] = []
changes_after keep e (f ∷ es) = back_if keep e f (changes_of keep (f ∷ es))

-- the changes from the pending one on, where these edges follow
abbrev pub changes_from : Keep → Pending → List Edge → List Change
changes_from keep Nothing es = []
changes_from keep (Forth m) es = change_of (edge_of m) ∷ changes_after keep (edge_of m) es
changes_from keep (Back b) es = record { time = b.time; level = b.level } ∷ changes_of keep (edge_of b.edge ∷ es)

-- the edges of a channel from an instant on
abbrev pub edges_from : Channel → List Instant → ℕ → List Edge
edges_from c is n = edges_on c (drop n is)

-- the changes that a track has left
abbrev pub left_of : List Instant → Track → List Change
left_of is t = changes_from t.keep t.pending (edges_from t.channel is t.index)

-- the changes of a channel, where it is watched
abbrev pub changes_if : Option Keep → List Edge → List Change
changes_if None es = []
changes_if (Some keep) es = changes_of keep es

-- the level of a channel at time 0, where it is watched
abbrev pub level_if : Option Keep → List Edge → Option Bool
level_if None es = None
level_if (Some keep) es = Some (first_level es)

-- the time of the first change, where there is one
abbrev pub first_time : List Change → Option ℤ
first_time [] = None
first_time (c ∷ cs) = Some c.time

-- of the changes before, that of this time is taken, where it is the first; these are left
abbrev pub IsTaken : ℤ → List Change → Option Bool → List Change → Type 0
IsTaken t before None after = (before ≡ after) × (first_time before ≢ Some t)
IsTaken t before (Some level) after = before ≡ record { time = t; level = level } ∷ after
