-- The number of an entry, its row and its column.
use Rattle.std.proofs.Common.{◌≡◌, ℕ, ◌+◌, ◌*◌, ◌/◌, ◌%◌, ◌<◌, ◌≤◌, List, eqb, ltb, refl, arith, inl, inr, eq-eqb}
use Rattle.std.proofs.Math.Nat.{mul-le-mul_right, div-eq_of_lt, lt-div-mul-add}
use Rattle.std.proofs.lemmas.Nat.{div-mul-add, mod-mul-add}
use Rattle.std.proofs.lemmas.Bool.{cases_lt, lt-ltb, le-ltb, ne_eqb}
use Rattle.image_layout.specs.Layout.{row_width}
use Rattle.image_layout.specs.Fields.{row_number_at}
use Rattle.image_layout.specs.Faults.{in_range}
use Rattle.image_layout.specs.StateRules.{entry_fault, is_entry}

pub row_below : (q c w v n : ℕ) → v ≡ w → q < n → c < w → q * v + c < n * w
row_below q c w v n e a b = rw e (let h : (q + 1) * w ≤ n * w = mul-le-mul_right w (omega arith) in omega (arith, h))

pub row_of_below : (q c w n : ℕ) → q * w + c < n * w → q < n
row_of_below q c w n h =
    elim (cases_lt q n) [ inl a ↦ a | inr b ↦ absurd (let k : n * w ≤ q * w = mul-le-mul_right w b in omega (arith, k)) ]

at_row : {X : Type 0} (F : ℕ → ℕ → ℕ → X) (q w c : ℕ) → c < w → F ((q * w + c) / w) ((q * w + c) % w) (q * w + c) ≡ F q c (q * w + c)
at_row F q w c h = rw (div-mul-add q w c h, mod-mul-add q w c h) refl

pub entry_fault_at : (b : List ℕ) (q c : ℕ) → c < row_width b → entry_fault b (q * row_width b + c) ≡ in_range 7 (q * row_width b + c) (is_entry b q c (row_number_at b (q * row_width b + c)))
entry_fault_at b q c h = at_row (λ (r k e : ℕ). in_range 7 e (is_entry b r k (row_number_at b e))) q (row_width b) c h

not_zero : (x m : ℕ) → 0 < m → m ≤ x → x / m ≡ 0 → ⊥
not_zero x m pos le e = let h = lt-div-mul-add {a = x} {b = m} pos in (let k : x < 0 * m + m = rw e at h in omega (arith, k))

-- a number shifted down is zero exactly where it is below the power
pub quotient_zero : (x m : ℕ) → 0 < m → eqb (x / m) 0 ≡ ltb x m
quotient_zero x m pos =
    elim (cases_lt x m) [
      | inl a ↦ rw (lt-ltb x m a) (eq-eqb (x / m) 0 (div-eq_of_lt a))
      | inr b ↦ rw (le-ltb x m b) (ne_eqb (x / m) 0 (λ e. not_zero x m pos b e))
    ]

-- the same number, below the same total
pub same_total : (s v n w : ℕ) → s ≡ n → v ≡ w → (e m : ℕ) → m ≡ e → e < s * v → m < n * w
same_total s v n w es ev e m em h = rw (em, ← es, ← ev) h

pub next_row : (q c w e : ℕ) → q * w + c ≡ e → c + 1 ≡ w → (q + 1) * w + 0 ≡ e + 1
next_row q c w e at last = omega (arith, at, last)

pub next_column : (c v w : ℕ) → v ≡ w → c < w → (c + 1 ≡ v → ⊥) → c + 1 < w
next_column c v w same below other = elim (cases_lt (c + 1) w) [ inl a ↦ a | inr b ↦ absurd (other (omega arith)) ]
