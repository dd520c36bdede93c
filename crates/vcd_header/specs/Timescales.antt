-- The timescale of a dump: the unit of its times.
use Rattle.std.specs.Prelude.{ℕ, ◌*◌, ◌^◌, nat_eq, if◌then◌else◌, List, drop, Option, Some, None, codes}
use Rattle.std.specs.List.{starts_with}
use Rattle.std.specs.Option.{option_map}
use Rattle.vcd_header.specs.Texts.{same}

-- a unit in femtoseconds
abbrev pub unit_of : List ℕ → Option ℕ
unit_of text =
    if same text (codes "s") then Some (10 ^ 15) else
    if same text (codes "ms") then Some (10 ^ 12) else
    if same text (codes "us") then Some (10 ^ 9) else
    if same text (codes "ns") then Some (10 ^ 6) else
    if same text (codes "ps") then Some (10 ^ 3) else
    if same text (codes "fs") then Some 1 else None

-- 1, 10 or 100 of a unit, in femtoseconds
abbrev pub scale_of : List ℕ → Option ℕ
scale_of text =
    if starts_with nat_eq text (codes "100") then option_map (λ u. 100 * u) (unit_of (drop 3 text)) else
    if starts_with nat_eq text (codes "10") then option_map (λ u. 10 * u) (unit_of (drop 2 text)) else
    if starts_with nat_eq text (codes "1") then unit_of (drop 1 text) else None
