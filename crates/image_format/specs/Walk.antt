-- The walk of an image's table over instants.
--
-- A window begins in state 1 with no instant. An instant stands for one to three letters, each a column of the present state's row.
-- They are taken in turn, up to the first that leads to state 0. Where one does, the instant is lost and the next window begins.
use Rattle.std.specs.Prelude.{ℕ, ◌+◌, ◌-◌, ◌*◌, ◌^◌, ◌==◌, ◌||◌, ◌&&◌, nat_lt, nat_le, Bool, true, false, List, [], ◌∷◌, length, filter, Option, Some, None, is_some, is_none, ℤ, ◌-ℤ◌, unsigned_abs, min, if◌then◌else◌}
use Rattle.wheel_types.specs.declared.instant.Instant.{Instant}
use Rattle.wheel_types.specs.Edges.{below}
use Rattle.wheel_types.specs.Shapes.{shape_number}
use Rattle.image_layout.specs.declared.kind.Kind.{Kind}
use Rattle.image_layout.specs.declared.kind.Kind.TheVariants.{Dead}
use Rattle.image_layout.specs.Layout.{time_total, ratio_total}
use Rattle.image_layout.specs.Fields.{time_cut_at, ratio_top_at, ratio_bottom_at, kind_at, phase_at, entry_at}
use Rattle.image_layout.specs.Letters.{ratio_columns, shape_column}

-- how many of the first n numbers pass a test
unfoldable pub count_below : ℕ → (ℕ → Bool) → ℕ
count_below n test = length (filter test (below n))

-- the class of a gap: the number of cuts that are at most its time
abbrev pub time_class_of : List ℕ → ℕ → ℕ
time_class_of b t = count_below (time_total b) (λ k. nat_le (time_cut_at b k) t)

-- the class of t1/t0: twice the number of cuts below it, and 1 more where it equals a cut
abbrev pub ratio_class_of : List ℕ → ℕ → ℕ → ℕ
ratio_class_of b t0 t1 =
    2 * count_below (ratio_total b) (λ k. nat_lt (ratio_top_at b k * t0) (t1 * ratio_bottom_at b k))
    + count_below (ratio_total b) (λ k. ratio_top_at b k * t0 == t1 * ratio_bottom_at b k)

-- where a walk stands: its state, whether its window has an instant, the last instant's time, and the times of the window's last two
-- crank edges
pub record Stand : Type 0 where
  pub state : ℕ
  pub started : Bool
  pub time : Option ℤ
  pub crank : Option ℤ
  pub crank_before : Option ℤ

-- a window with no instant, after an instant at this time
abbrev pub fresh : Option ℤ → Stand
fresh time = record { state = 1; started = false; time = time; crank = None; crank_before = None }

-- the time from an edge to a later one in femtoseconds, cut down to 64 bits. Where there is no edge no verified image asks for it, and it
-- is 1
abbrev pub gap : Option ℤ → ℤ → ℕ
gap None time = 1
gap (Some from) time = min (unsigned_abs (time -ℤ from)) (2 ^ 64 - 1)

-- the gap before the one that an instant ends, cut down and left out alike
abbrev pub last_gap : Stand → ℕ
last_gap s = elim s.crank [ None ↦ 1 | Some time ↦ gap s.crank_before time ]

-- the column of an instant's shape
abbrev pub shape_letter : List ℕ → Instant → ℕ
shape_letter b i = shape_column (time_total b) (ratio_total b) (shape_number i.crank i.cam1 i.cam2)

-- the column of the ratio of the gap that an instant ends to the gap before
abbrev pub ratio_letter : List ℕ → Stand → Instant → ℕ
ratio_letter b s i = ratio_columns (time_total b) + ratio_class_of b (last_gap s) (gap s.crank i.time)

-- the columns of the letters that an instant stands for: its shape alone where it has no crank edge or the state is of phase 0, else
-- the class of the gap's time, from phase 2 that of its ratio to the gap before, and its shape
abbrev pub letters : List ℕ → Stand → Instant → List ℕ
letters b s i =
    if is_none i.crank || (phase_at b s.state == 0) then shape_letter b i ∷ []
    else if phase_at b s.state == 2
    then time_class_of b (gap s.crank i.time) ∷ (ratio_letter b s i ∷ (shape_letter b i ∷ []))
    else time_class_of b (gap s.crank i.time) ∷ (shape_letter b i ∷ [])

-- the state after the letters, up to the first that leads to state 0
unfoldable pub state_after : List ℕ → ℕ → List ℕ → ℕ
state_after b q [] = q
state_after b q (letter ∷ rest) = if entry_at b q letter == 0 then 0 else state_after b (entry_at b q letter) rest

-- how many letters are taken, the first that leads to state 0 among them
unfoldable pub taken : List ℕ → ℕ → List ℕ → ℕ
taken b q [] = 0
taken b q (letter ∷ rest) = if entry_at b q letter == 0 then 1 else 1 + taken b (entry_at b q letter) rest

-- the window goes on with the instant
abbrev pub joined : Option ℤ → Option ℤ → Instant → ℕ → Stand
joined crank crank_before i to = record {
  state = to;
  started = true;
  time = Some i.time;
  crank = if is_some i.crank then Some i.time else crank;
  crank_before = if is_some i.crank then crank else crank_before;
}

-- after a lost instant the next window begins with it, where its shape leads on from state 1
abbrev pub begun : List ℕ → Instant → Stand
begun b i =
    if entry_at b 1 (shape_letter b i) == 0 then fresh (Some i.time)
    else joined None None i (entry_at b 1 (shape_letter b i))

-- the state that an instant's letters lead to
abbrev pub end_state : List ℕ → Stand → Instant → ℕ
end_state b s i = state_after b s.state (letters b s i)

-- where the walk stands after one instant more. A lost instant that began its window begins no other
abbrev pub next : List ℕ → Stand → Instant → Stand
next b s i =
    if end_state b s i == 0 then (if s.started then begun b i else fresh (Some i.time))
    else joined s.crank s.crank_before i (end_state b s i)

-- the kind of the state reached, Dead where the instant is lost
abbrev pub answer : List ℕ → Stand → Instant → Kind
answer b s i = if end_state b s i == 0 then Dead else kind_at b (end_state b s i)

-- how many letters an instant takes, its shape's second one from state 1 among them
abbrev pub letters_taken : List ℕ → Stand → Instant → ℕ
letters_taken b s i = taken b s.state (letters b s i) + (if (end_state b s i == 0) && s.started then 1 else 0)

-- where the walk stands after the instants, the last one first
abbrev pub stand_after : List ℕ → List Instant → Stand
stand_after b [] = fresh None
stand_after b (i ∷ past) = next b (stand_after b past) i
