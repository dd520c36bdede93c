-- Counts of faults. A count stops at 2^64 - 1, and one that stands there is said to have risen.
use Rattle.std.specs.Prelude.{◌≡◌, ℕ, ◌+◌, ◌-◌, ◌^◌, ◌≤◌, min, Result, IsErrOf}
use Rattle.shelf_traits.specs.declared.fault.IoFault.{IoFault}
use Rattle.shelf_traits.specs.declared.fault.IoFault.TheVariants.{Failed}

-- a count is at most 2^64 - 1
abbrev pub Fits : ℕ → Type 0
Fits count = count ≤ 2 ^ 64 - 1

-- a count rose from before to now
abbrev pub Rose : ℕ → ℕ → Type 0
Rose before now = min (before + 1) (2 ^ 64 - 1) ≤ now

-- the count has not fallen; it rose where this is so, and else it stays
pub record RoseWhere (fact : Type 0) (before now : ℕ) : Type 0 where
  pub later : before ≤ now
  pub rose : fact → Rose before now
  pub stays : ¬ fact → now ≡ before

-- the count rose where `Failed` is told, and else it stays
pub record HasCause {T : Type 0} (before now : ℕ) (result : Result T IoFault) : Type 0 where
  pub later : before ≤ now
  pub failed : IsErrOf result Failed → Rose before now
  pub quiet : ¬ IsErrOf result Failed → now ≡ before
