-- What taps mean, and what telling does to them.
use Rattle.std.specs.Prelude.{◌≡◌, ℕ, Bool, true, not, ◌&&◌, List, [], ◌∷◌, ◌++◌, map, filter, flat_map}

-- The marks that a tap keeps; and by a list of marks its text for the end, and whether it stops once it has them.
pub record Meaning : Type 0 where
  pub marks : List ℕ
  pub tail : List ℕ → List ℕ
  pub stops : List ℕ → Bool

-- the tap with one more mark
abbrev pub marked : ℕ → Meaning → Meaning
marked m t = record { marks = t.marks ++ m ∷ []; tail = t.tail; stops = t.stops }

-- it stops at the marks that it keeps
abbrev pub has_stopped : Meaning → Bool
has_stopped t = t.stops t.marks

-- it does not
abbrev pub goes_on : Meaning → Bool
goes_on t = not (has_stopped t)

-- its text for the end
abbrev pub tail_of : Meaning → List ℕ
tail_of t = t.tail t.marks

-- each takes the mark, in order, and those that stop at their new list are dropped
abbrev pub told : ℕ → List Meaning → List Meaning
told m taps = filter goes_on (map (marked m) taps)

-- those before one that wanted memory took the mark; that one and those after it did not
abbrev pub IsToldInPart : ℕ → List Meaning → List Meaning → Type 0
IsToldInPart m old new = (before : List Meaning) × ((refusing : Meaning) × ((after : List Meaning) ×
    ((old ≡ before ++ refusing ∷ after) × (new ≡ told m before ++ refusing ∷ after))))

-- the texts of all in order
abbrev pub tails_of : List Meaning → List ℕ
tails_of taps = flat_map tail_of taps

-- each mark in turn
abbrev pub told_all : List ℕ → List Meaning → List Meaning
told_all [] taps = taps
told_all (m ∷ ms) taps = told_all ms (told m taps)

-- the tap with all these marks behind its own
abbrev pub marked_by : List ℕ → Meaning → Meaning
marked_by ms t = record { marks = t.marks ++ ms; tail = t.tail; stops = t.stops }

-- it stops at none of the lists that these marks make behind its own
abbrev pub stays : List ℕ → Meaning → Bool
stays [] t = true
stays (m ∷ ms) t = goes_on (marked m t) && stays ms (marked m t)

-- the texts of those that are live once all were told these marks
abbrev pub tails_after : List Meaning → List ℕ → List ℕ
tails_after taps marks = tails_of (told_all marks taps)
