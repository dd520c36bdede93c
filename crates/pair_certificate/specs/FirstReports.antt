-- A first reading of a report's line, which takes more than the grammar has, and whatever follows. What it gives is printed again
-- and compared, so that the line is in the grammar exactly where the two are one.
use Rattle.std.specs.Prelude.{ℕ, ◌+◌, ◌*◌, ◌-◌, ◌^◌, cond, ◌==◌, List, Option, Some, None, codes}
use Rattle.wheel_types.specs.declared.verdict.Verdict.{Verdict}
use Rattle.wheel_types.specs.declared.verdict.Verdict.TheVariants.{At, Open, Lost}
use Rattle.wheel_types.specs.declared.verdict.Report.{Report}
use Rattle.pair_certificate.specs.FirstFields.{◌>>=◌, number_at, after_text, signed_at, place_at}

-- the digit 2 where these bytes follow a falling edge, and else 0 with the bytes
abbrev pub by_fall : List ℕ → Option (List ℕ) → ℕ × List ℕ
by_fall bytes None = (0, bytes)
by_fall bytes (Some rest) = (2, rest)

-- the digit 1 where these bytes follow a rising edge, and else that of a falling one
abbrev pub by_rise : List ℕ → List ℕ → Option (List ℕ) → ℕ × List ℕ
by_rise fall bytes None = by_fall bytes (after_text fall bytes)
by_rise fall bytes (Some rest) = (1, rest)

-- the edge at the front, by the texts of its two ways, as a digit, and what follows it
unfoldable pub edge_at : List ℕ → List ℕ → List ℕ → ℕ × List ℕ
edge_at rise fall bytes = by_rise fall bytes (after_text rise bytes)

-- the number of the shape at the front, and what follows it
unfoldable pub shape_at : List ℕ → Option (ℕ × List ℕ)
shape_at bytes =
    let crank = edge_at (codes "C+") (codes "C-") bytes in
    let cam1 = edge_at (codes "1+") (codes "1-") crank.1 in
    let cam2 = edge_at (codes "2+") (codes "2-") cam1.1 in
    cond (crank.0 + 3 * cam1.0 + 9 * cam2.0 == 0) None (Some (crank.0 + 3 * cam1.0 + 9 * cam2.0, cam2.1))

-- the position and the slot at the front, and what follows them
unfoldable pub at_verdict : List ℕ → Option (Verdict × List ℕ)
at_verdict bytes = do
  j ← number_at (2 ^ 32 - 1) bytes
  rest ← after_text (codes " slot ") j.1
  slot ← number_at (2 ^ 32 - 1) rest
  Some (At j.0 slot.0, slot.1)

-- the two places at the front, and what follows them
unfoldable pub open_verdict : List ℕ → Option (Verdict × List ℕ)
open_verdict bytes = do
  a ← place_at bytes
  rest ← after_text (codes " ") a.1
  b ← place_at rest
  Some (Open a.0 b.0, b.1)

-- a loss, where these bytes follow its word
abbrev pub by_lost : Option (List ℕ) → Option (Verdict × List ℕ)
by_lost None = None
by_lost (Some rest) = Some (Lost, rest)

-- two places, where these bytes follow their word, and else a loss
abbrev pub by_open : List ℕ → Option (List ℕ) → Option (Verdict × List ℕ)
by_open bytes None = by_lost (after_text (codes "lost") bytes)
by_open bytes (Some rest) = open_verdict rest

-- a position, where these bytes follow its word, and else another verdict
abbrev pub by_at : List ℕ → Option (List ℕ) → Option (Verdict × List ℕ)
by_at bytes None = by_open bytes (after_text (codes "open ") bytes)
by_at bytes (Some rest) = at_verdict rest

-- the verdict at the front, and what follows it
unfoldable pub verdict_at : List ℕ → Option (Verdict × List ℕ)
verdict_at bytes = by_at bytes (after_text (codes "at ") bytes)

-- the record of a line
unfoldable pub report_at : List ℕ → Option Report
report_at bytes = do
  index ← number_at (2 ^ 64 - 1) bytes
  first ← after_text (codes " ") index.1
  time ← signed_at (10 ^ 24) (10 ^ 24) first
  second ← after_text (codes " ") time.1
  shape ← shape_at second
  third ← after_text (codes " ") shape.1
  verdict ← verdict_at third
  Some (record { index = index.0; time = time.0; shape = shape.0; verdict = verdict.0 })
