-- What files ask of the edges that are written in them. Lists of instants, edges and changes are in the order of their times.
use Rattle.std.specs.Prelude.{◌≡◌, ◌^◌, ◌≤◌, not, List, [], ◌∷◌, Option, Some, None, Contains, ⊤}
use Rattle.std.specs.Prelude.{ℤ, pos, ◌+ℤ◌, ◌<ℤ◌, ◌≤ℤ◌, unsigned_abs}
use Rattle.wheel_types.specs.declared.channel.Keep.{Keep}
use Rattle.wheel_types.specs.declared.channel.Keep.TheVariants.{Rising, Falling, Both}
use Rattle.wheel_types.specs.declared.channel.Channel.{Channel}
use Rattle.wheel_types.specs.declared.instant.Instant.{Instant}
use Rattle.capture_core.specs.declared.capture.Watch.{Watch}
use Rattle.capture_core.specs.Changes.{IsKept, keep_on, level_after}
use Rattle.stimulus_files.specs.Changes.{Edge, edges_on, Change, changes_of}

-- two successive edges of a channel that keeps both polarities go opposite ways
abbrev pub Follows : Keep → Edge → Edge → Type 0
Follows Both e f = level_after f.polarity ≡ not (level_after e.polarity)
Follows Rising e f = ⊤
Follows Falling e f = ⊤

-- edges are of kept polarities, and follow one another
abbrev pub AreInTurn : Keep → List Edge → Type 0
AreInTurn keep [] = ⊤
AreInTurn keep (e ∷ []) = IsKept keep e.polarity
AreInTurn keep (e ∷ f ∷ es) = IsKept keep e.polarity × Follows keep e f × AreInTurn keep (f ∷ es)

-- two units at least are between two edges, and the first is after a time
abbrev pub AreApart : ℤ → List Edge → Type 0
AreApart t [] = ⊤
AreApart t (e ∷ []) = t <ℤ e.time
AreApart t (e ∷ f ∷ es) = (t <ℤ e.time) × ((e.time +ℤ pos 2) ≤ℤ f.time) × AreApart e.time (f ∷ es)

-- a channel has no edge where it is not watched, and else edges of kept polarities in turn, apart and after time 0
abbrev pub IsWritable : Option Keep → List Edge → Type 0
IsWritable None es = es ≡ []
IsWritable (Some keep) es = AreInTurn keep es × AreApart (pos 0) es

-- this holds of each channel
abbrev pub AreWritable : Watch → List Instant → Type 0
AreWritable watch is = (c : Channel) → IsWritable (keep_on c watch) (edges_on c is)

-- the times of changes rise strictly, the first being after a time
abbrev pub RiseFrom : ℤ → List Change → Type 0
RiseFrom t [] = ⊤
RiseFrom t (c ∷ cs) = (t <ℤ c.time) × RiseFrom c.time cs

-- the times of changes are at most the greatest time of a capture, 10 ^ 24
abbrev pub AreWithin : List Change → Type 0
AreWithin cs = (d : Change) → Contains cs d → unsigned_abs d.time ≤ 10 ^ 24

-- the changes of the watched channels are after time 0, and at most at the greatest time
abbrev pub AreSmall : Watch → List Instant → Type 0
AreSmall watch is = (c : Channel) (keep : Keep) → keep_on c watch ≡ Some keep
    → RiseFrom (pos 0) (changes_of keep (edges_on c is)) × AreWithin (changes_of keep (edges_on c is))
