-- The times that are kept of a window's crank edges.
use Rattle.std.specs.Prelude.{◌≤◌, ◌^◌, List, [], ◌∷◌, ℤ, unsigned_abs, All}
use Rattle.legal_steps.specs.declared.times.CrankTimes.{CrankTimes}
use Rattle.legal_steps.specs.declared.times.CrankTimes.TheVariants.{Unseen, Once, Twice}

-- a time of at most 10^24 femtoseconds in size
abbrev pub IsSmall : ℤ → Type 0
IsSmall t = unsigned_abs t ≤ 10 ^ 24

-- the times that are kept of crank edges, the last one first
abbrev pub times_of : CrankTimes → List ℤ
times_of Unseen = []
times_of (Once last) = last ∷ []
times_of (Twice last before) = last ∷ before ∷ []

-- each of them is small
abbrev pub AreSmall : CrankTimes → Type 0
AreSmall times = All IsSmall (times_of times)
