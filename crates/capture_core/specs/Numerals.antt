-- Digits, and the numbers that they spell.
use Rattle.std.specs.Prelude.{ℕ, ◌+◌, ◌*◌, ◌-◌, Bool, ◌&&◌, nat_le, List, [], ◌∷◌}

-- a byte from `0` to `9`
abbrev pub is_digit : ℕ → Bool
is_digit b = nat_le 48 b && nat_le b 57

-- the number that these digits spell after those of n
abbrev pub number_after : ℕ → List ℕ → ℕ
number_after n [] = n
number_after n (d ∷ digits) = number_after (n * 10 + (d - 48)) digits

-- the number that digits spell
abbrev pub number : List ℕ → ℕ
number digits = number_after 0 digits
