-- The plain program: verdicts by the sets of end places, instant by instant. It computes, so that the verdicts of worked captures and
-- the texts of their reports are theorems by computing. It is not proved to compute the definitions, and no clause of a function
-- cites it.
use Rattle.std.specs.Prelude.{ℕ, zero, suc, ◌*◌, cond, ◌&&◌, ◌||◌, not, List, [], ◌∷◌, map, Option, Some, None, ℤ, pos, ◌-ℤ◌, ◌+◌, int_lt, int_le, nat_lt, ◌==◌, slice_index, Bool, filter, filter_map, flat_map}
use Rattle.wheel_types.specs.declared.channel.Channel.TheVariants.{Crank, Cam1, Cam2}
use Rattle.wheel_types.specs.declared.place.Place.{Place}
use Rattle.wheel_types.specs.declared.instant.Instant.{Instant}
use Rattle.wheel_types.specs.declared.verdict.Verdict.{Verdict}
use Rattle.wheel_types.specs.declared.verdict.Verdict.TheVariants.{At, Open, Lost}
use Rattle.wheel_types.specs.declared.parts.WheelParts.{WheelParts}
use Rattle.wheel_types.specs.Edges.{below, edge_count, edge_slots}
use Rattle.wheel_types.specs.Steps.{indices_of}
use Rattle.wheel_types.specs.Starts.{start_of}
pub use Rattle.wheel_types.specs.PlainSteps.{same_pol, cam_low, cam_high, low_of, high_of, is_counted, is_standing, pass_event, walk, first_walk, keeps_speed, keeps_ratio, keeps_gaps, keeps_gaps_if, legal_step}

-- the next edges of a cam that may stand within a cycle
abbrev pub candidates : ℕ → List ℤ
candidates zero = pos 0 ∷ []
candidates (suc k) = map (λ n. pos n -ℤ pos (2 * suc k)) (below (5 * suc k + 1))

-- every place of the wheel, ascending
abbrev pub all_places : WheelParts → List Place
all_places w = filter (λ p. is_standing w (indices_of p)) (flat_map (λ j. flat_map (λ n1. map (λ n2. record { j = j; n1 = n1; n2 = n2 }) (candidates (edge_count w Cam2))) (candidates (edge_count w Cam1))) (below (edge_count w Crank)))

-- the places at which motions end that give the instants
abbrev pub ends_of : WheelParts → List Instant → List Place
ends_of w [] = all_places w
ends_of w (i ∷ past) = filter_map (legal_step w past i) (ends_of w past)

-- whether a place stands before another
abbrev pub is_less : Place → Place → Bool
is_less p q = nat_lt p.j q.j || ((p.j == q.j) && (int_lt p.n1 q.n1 || (int_le p.n1 q.n1 && int_lt p.n2 q.n2)))

-- the least of the places
abbrev pub least_of : List Place → Option Place
least_of [] = None
least_of (p ∷ ps) = least_with p (least_of ps)
  where
    least_with : Place → Option Place → Option Place
    least_with p None = Some p
    least_with p (Some q) = cond (is_less q p) (Some q) (Some p)

-- the verdict of the instants
abbrev pub verdict_of : WheelParts → List Instant → Verdict
verdict_of w past = by_least (least_of (ends_of w past))
  where
    by_next : Place → Option Place → Verdict
    by_next e None = At e.j (slice_index (edge_slots w Crank) e.j)
    by_next e (Some f) = Open (start_of w past e) (start_of w past f)

    by_least : Option Place → Verdict
    by_least None = Lost
    by_least (Some e) = by_next e (least_of (filter (λ p. not (p.j == e.j)) (ends_of w past)))

-- the window after an instant with this verdict, which alone has the other
abbrev pub next_window : Instant → List Instant → Verdict → Verdict → List Instant
next_window i past (At j slot) alone = i ∷ past
next_window i past (Open a b) alone = i ∷ past
next_window i [] Lost alone = []
next_window i (h ∷ past) Lost (At j slot) = i ∷ []
next_window i (h ∷ past) Lost (Open a b) = i ∷ []
next_window i (h ∷ past) Lost Lost = []

-- the verdicts of instants, the last first, and the window that the next one comes into
abbrev pub windows_of : WheelParts → List Instant → List Verdict × List Instant
windows_of w [] = ([], [])
windows_of w (i ∷ past) =
    let before = windows_of w past in
    let v = verdict_of w (i ∷ before.1) in
    (v ∷ before.0, next_window i before.1 v (verdict_of w (i ∷ [])))
