-- The values of a body as they are kept while it is read.
use Rattle.std.specs.Prelude.{ℕ, min, List, map, Result}
use Rattle.std.specs.Result.{result_map_both}
use Rattle.c_tables.specs.declared.fault.TableFault.{TableFault}
use Rattle.c_tables.specs.declared.body.Wanted.{Wanted}
use Rattle.c_tables.specs.Tokens.{Token}
use Rattle.c_tables.specs.Tables.{entries}

-- a value, or 8 where it is past 7
abbrev pub kept : ℕ → ℕ
kept value = min value 8

-- the values of the entries of a body, each as it is kept, or the first token that doesn't fit
abbrev pub kept_entries : ℕ → Wanted → List Token → Result (List ℕ) TableFault
kept_entries end wanted ts = result_map_both (map kept) (λ fault. fault) (entries end wanted ts)
