-- Numbers, texts and places at the front of a line, read so that more is taken than the grammar has: leading zeros, and `-0`.
use Rattle.std.specs.Prelude.{ℕ, suc, ◌-◌, ◌^◌, cond, ◌==◌, nat_lt, nat_eq, List, [], ◌∷◌, take, drop, length, Option, Some, None}
use Rattle.std.specs.Prelude.{ℤ, pos, neg_ℤ, codes}
use Rattle.std.specs.List.{starts_with}
use Rattle.std.specs.Option.{option_map}
use Rattle.wheel_types.specs.declared.place.Place.{Place}
use Rattle.capture_core.specs.Numerals.{is_digit, number}

infixl 10 ◌>>=◌
-- what is read after a first value, where that is there
abbrev pub ◌>>=◌ : {A B : Type 0} → Option A → (A → Option B) → Option B
(Some x) >>= f = f x
None >>= f = None

-- how many digits stand at the front
abbrev pub digit_count : List ℕ → ℕ
digit_count [] = 0
digit_count (b ∷ bytes) = cond (is_digit b) (suc (digit_count bytes)) 0

-- the number at the front, if it is at most this one, and what follows it
unfoldable pub number_at : ℕ → List ℕ → Option (ℕ × List ℕ)
number_at most bytes =
    cond (digit_count bytes == 0) None
    (cond (nat_lt most (number (take (digit_count bytes) bytes))) None
    (Some (number (take (digit_count bytes) bytes), drop (digit_count bytes) bytes)))

-- what follows a text at the front
abbrev pub after_text : List ℕ → List ℕ → Option (List ℕ)
after_text text bytes = cond (starts_with nat_eq bytes text) (Some (drop (length text) bytes)) None

-- the integer that is one below 0 where these bytes follow a minus, and else that of the bytes, and what follows it
abbrev pub with_sign : ℕ → ℕ → List ℕ → Option (List ℕ) → Option (ℤ × List ℕ)
with_sign low high bytes None = option_map (λ x. (pos x.0, x.1)) (number_at high bytes)
with_sign low high bytes (Some rest) = option_map (λ x. (neg_ℤ (pos x.0), x.1)) (number_at low rest)

-- the integer at the front, from the one limit below 0 to the other above, and what follows it
unfoldable pub signed_at : ℕ → ℕ → List ℕ → Option (ℤ × List ℕ)
signed_at low high bytes = with_sign low high bytes (after_text (codes "-") bytes)

-- the place at the front, and what follows it
unfoldable pub place_at : List ℕ → Option (Place × List ℕ)
place_at bytes = do
  j ← number_at (2 ^ 32 - 1) bytes
  first ← after_text (codes ":") j.1
  n1 ← signed_at (2 ^ 31) (2 ^ 31 - 1) first
  second ← after_text (codes ":") n1.1
  n2 ← signed_at (2 ^ 31) (2 ^ 31 - 1) second
  Some (record { j = j.0; n1 = n1.0; n2 = n2.0 }, n2.1)
