-- Tokens by their first and last bytes.
use Rattle.std.proofs.Common.{◌≡◌, ◌≢◌, ◌≤◌, ℕ, ◌-◌, List, [], ◌∷◌, length, get_or, drop, take, sym, refl, true, false, arith, ap, nat_eq}
use Rattle.std.proofs.lemmas.Bool.Decides.{nat_tests}
use Rattle.std.proofs.lemmas.Grind.{common_steps}
use native.Mathlib.Numerals.{unary_clauses}
use Rattle.std.specs.List.{list_all}
use Rattle.vcd_header.specs.Values.{is_value, last_of, level_of}
use Rattle.vcd_reader.specs.Readings.{Body, wanting}
use Rattle.vcd_reader.specs.Changes.{change_token, other_token, vector_token}

pub last_of-get_or : (bytes : List ℕ) (c : ℕ) → last_of bytes c ≡ get_or (c ∷ bytes) (length bytes) 0
last_of-get_or [] c = refl
last_of-get_or (b ∷ bytes) c = last_of-get_or bytes b

not_eq : (m n : ℕ) → m ≢ n → nat_eq m n ≡ false
not_eq m n apart = grind (arith, nat_tests)

rest_is : (c : ℕ) (rest : List ℕ) → take (length (c ∷ rest) - 1) (drop 1 (c ∷ rest)) ≡ rest
rest_is c rest = grind (arith, common_steps)

-- a token that is neither a time nor a scalar change
pub change_token-other : (b : Body) (text : List ℕ) (at : ℕ) → 1 ≤ length text → get_or text 0 0 ≢ 35 → is_value (get_or text 0 0) ≡ false
    → change_token b text at ≡ other_token b (get_or text 0 0) (take (length text - 1) (drop 1 text)) text at
change_token-other b [] at some no_time no_value = absurd (omega arith)
change_token-other b (c ∷ rest) at some no_time no_value =
    rw (not_eq c 35 no_time, no_value) (ap (λ (x : List ℕ). other_token b c x (c ∷ rest) at) (sym (rest_is c rest)))

-- a vector goes by its last value
pub vector_token-last : (b : Body) (values : List ℕ) (at : ℕ) → 1 ≤ length values → list_all is_value values ≡ true
    → vector_token b values at ≡ wanting b (level_of (get_or values (length values - 1) 0))
vector_token-last b [] at some all = absurd (omega arith)
vector_token-last b (v ∷ values) at some all = rw (all, last_of-get_or values v) (simp unary_clauses)
