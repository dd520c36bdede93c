-- The ranges of the numbers that lines of reports and certificates have.
use Rattle.std.specs.Prelude.{◌<◌, ◌≤◌, ◌^◌, ◌-◌, ℤ, pos, neg_ℤ, ◌≤ℤ◌, unsigned_abs, All}
use Rattle.wheel_types.specs.declared.place.Place.{Place}
use Rattle.wheel_types.specs.declared.verdict.Verdict.{Verdict}
use Rattle.wheel_types.specs.declared.verdict.Verdict.TheVariants as verdict
use Rattle.wheel_types.specs.declared.verdict.Report.{Report}
use Rattle.pair_certificate.specs.declared.line.CertKind.{CertKind}
use Rattle.pair_certificate.specs.declared.line.CertKind.TheVariants as kind
use Rattle.pair_certificate.specs.declared.line.CertLine.{CertLine}

-- an integer of 32 bits with a sign
abbrev pub IsSigned : ℤ → Type 0
IsSigned z = (neg_ℤ (pos (2 ^ 31)) ≤ℤ z) × (z ≤ℤ pos (2 ^ 31 - 1))

-- the last crank edge has 32 bits, and the next edges of the cams have 32 bits with a sign
pub record IsPlaceInRange (p : Place) : Type 0 where
  pub j : p.j < 2 ^ 32
  pub n1 : IsSigned p.n1
  pub n2 : IsSigned p.n2

-- a position and a slot of 32 bits, two places in range, or a loss
abbrev pub IsVerdictInRange : Verdict → Type 0
IsVerdictInRange (verdict.At j slot) = (j < 2 ^ 32) × (slot < 2 ^ 32)
IsVerdictInRange (verdict.Open a b) = IsPlaceInRange a × IsPlaceInRange b
IsVerdictInRange verdict.Lost = Unit {0}

-- an index of 64 bits, a time of at most a billion seconds in size, the number of a shape
pub record IsReportInRange (r : Report) : Type 0 where
  pub index : r.index < 2 ^ 64
  pub time : unsigned_abs r.time ≤ 10 ^ 24
  pub some_edge : 1 ≤ r.shape
  pub shape : r.shape ≤ 26
  pub verdict : IsVerdictInRange r.verdict

-- the places that a line of a certificate names are in range
abbrev pub IsKindInRange : CertKind → Type 0
IsKindInRange (kind.At a) = IsPlaceInRange a
IsKindInRange (kind.Open a b) = IsPlaceInRange a × IsPlaceInRange b
IsKindInRange kind.Lost = Unit {0}

-- an index of 64 bits, and places in range
pub record IsCertLineInRange (c : CertLine) : Type 0 where
  pub index : c.index < 2 ^ 64
  pub kind : IsKindInRange c.kind
  pub cover : All IsPlaceInRange c.cover
