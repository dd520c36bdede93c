-- Fractions, and lists of them that ascend.
use Rattle.std.specs.Prelude.{◌≡◌, ℕ, ◌*◌, ◌^◌, ◌<◌, ◌≤◌, ◌+◌, List, length, filter, slice_index_or, nat_lt, ◌==◌}
use Rattle.gap_thresholds.specs.declared.cut.Cut.{Cut}

-- it is below the fraction of these two
abbrev pub IsBelow : Cut → ℕ → ℕ → Type 0
IsBelow c top bottom = c.top * bottom < top * c.bottom

-- it is equal to the fraction of these two
abbrev pub IsEqual : Cut → ℕ → ℕ → Type 0
IsEqual c top bottom = c.top * bottom ≡ top * c.bottom

-- no number but 1 divides top and bottom
abbrev pub IsLowest : Cut → Type 0
IsLowest c = (1 ≤ c.bottom) × ((d x y : ℕ) → d * x ≡ c.top → d * y ≡ c.bottom → d ≡ 1)

-- each is below the next
abbrev pub Ascend : List Cut → Type 0
Ascend cuts = (k : ℕ) (c : Cut) → k + 1 < length cuts → IsBelow (slice_index_or cuts k c) (slice_index_or cuts (k + 1) c).top (slice_index_or cuts (k + 1) c).bottom

-- how many are below the fraction of these two
abbrev pub count_below : List Cut → ℕ → ℕ → ℕ
count_below cuts top bottom = length (filter (λ c. nat_lt (c.top * bottom) (top * c.bottom)) cuts)

-- how many are equal to it
abbrev pub count_equal : List Cut → ℕ → ℕ → ℕ
count_equal cuts top bottom = length (filter (λ c. (c.top * bottom) == (top * c.bottom)) cuts)

-- top and bottom are below 2 to the 32
abbrev pub IsSmall : Cut → Type 0
IsSmall c = (c.top < 2 ^ 32) × (c.bottom < 2 ^ 32)
