-- The marks by which taps remember reports.
use Rattle.std.specs.Prelude.{ℕ, ◌+◌, Bool, eqb, leb}
use Rattle.wheel_types.specs.declared.verdict.Verdict.{Verdict}
use Rattle.wheel_types.specs.declared.verdict.Verdict.TheVariants.{At, Open, Lost}

-- 0 for lost, 1 for open, 2 and the position for at
abbrev pub mark_of : Verdict → ℕ
mark_of Lost = 0
mark_of (Open a b) = 1
mark_of (At j slot) = 2 + j

-- whether a mark is that of an at
abbrev pub is_at : ℕ → Bool
is_at m = leb 2 m

-- whether it is that of an open
abbrev pub is_open : ℕ → Bool
is_open m = eqb m 1

-- whether it is that of a lost
abbrev pub is_lost : ℕ → Bool
is_lost m = eqb m 0
