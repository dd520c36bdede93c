use Rattle.std.proofs.Common.{◌≡◌, ◌+◌, ◌*◌, ◌-◌, ◌<◌, ◌≤◌, ℕ, List, length, drop, get_or, arith}
use Rattle.std.specs.List.{fold}
use Rattle.std.proofs.lemmas.List.{at_drop_more}
use Rattle.c_tables.specs.Tables.{number}
use Rattle.c_tables.proofs.EntryValues.{more_digits}
use Rattle.c_tables.proofs.body.slot_value.Goals as goal

-- the number with one more digit is at most the number of all
next_least : (n i whole : ℕ) (digits : List ℕ) → i < length digits → fold (λ n digit. n * 10 + (digit - 48)) n (drop i digits) ≡ whole
    → n * 10 + (get_or digits i 0 - 48) ≤ whole
next_least n i whole digits h e =
    omega (arith, more_digits (n * 10 + (get_or digits i 0 - 48)) (drop (i + 1) digits), at_drop_more (fold (λ n digit. n * 10 + (digit - 48)) n) digits i 0 h, e)

pub returns-then-value-gt7 : goal.returns-then-value-gt7
returns-then-value-gt7 c =
    omega (arith, next_least c.digits.value c.digits.digit-index (number c.args.digits.now) c.args.digits.now (omega arith) c.digits.invariant.rest)
