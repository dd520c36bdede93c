-- The values of a body as they are kept, and the numbers that digits spell.
use Rattle.std.proofs.Common.{◌≡◌, ℕ, ◌+◌, ◌*◌, ◌-◌, ◌≤◌, List, [], ◌∷◌, ◌++◌, map, Result, Ok, Err, refl, ap, arith}
use Rattle.std.specs.List.{fold}
use Rattle.std.specs.Result.{result_map_both}
use Rattle.c_tables.specs.declared.fault.TableFault.{TableFault}
use Rattle.c_tables.specs.Tables.{in_front}
use Rattle.c_tables.specs.Kept.{kept}

-- these values in front of the others, where those are there
abbrev pub all_in_front : List ℕ → Result (List ℕ) TableFault → Result (List ℕ) TableFault
all_in_front [] more = more
all_in_front (v ∷ vs) more = in_front v (all_in_front vs more)

pub all_in_front-push : (vs : List ℕ) (v : ℕ) (more : Result (List ℕ) TableFault) → all_in_front (vs ++ v ∷ []) more ≡ all_in_front vs (in_front v more)
all_in_front-push [] v more = refl
all_in_front-push (w ∷ vs) v more = ap (in_front w) (all_in_front-push vs v more)

pub all_in_front-done : (vs : List ℕ) → all_in_front vs (Ok []) ≡ Ok vs
all_in_front-done [] = refl
all_in_front-done (w ∷ vs) = rw (all_in_front-done vs) refl

pub all_in_front-fault : (vs : List ℕ) (f : TableFault) → all_in_front vs (Err f) ≡ Err f
all_in_front-fault [] f = refl
all_in_front-fault (w ∷ vs) f = rw (all_in_front-fault vs f) refl

-- one more value is kept in front of those that are kept
pub kept-in_front : (v : ℕ) (more : Result (List ℕ) TableFault)
    → result_map_both (map kept) (λ (fault : TableFault). fault) (in_front v more) ≡ in_front (kept v) (result_map_both (map kept) (λ fault. fault) more)
kept-in_front v (Ok vs) = refl
kept-in_front v (Err f) = refl

-- more digits make no smaller number
pub more_digits : (n : ℕ) (digits : List ℕ) → n ≤ fold (λ n digit. n * 10 + (digit - 48)) n digits
more_digits n [] = omega arith
more_digits n (d ∷ digits) = omega (arith, more_digits (n * 10 + (d - 48)) digits)
