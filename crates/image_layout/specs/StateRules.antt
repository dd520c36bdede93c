-- The rules of the sections 5 to 7: kinds, member sets and rows.
use Rattle.std.specs.Prelude.{ℕ, ◌+◌, ◌-◌, ◌*◌, ◌/◌, ◌%◌, ◌^◌, ◌==◌, ◌&&◌, ◌||◌, not, Bool, nat_lt, nat_le, List, [], ◌∷◌, Option, if◌then◌else◌}
use Rattle.image_layout.specs.declared.fault.ImageFault.{ImageFault}
use Rattle.image_layout.specs.Layout.{place_total, time_total, ratio_total, state_total, set_words, row_width, members_begin, rows_end, image_end}
use Rattle.image_layout.specs.Fields.{place_at, kind_word_at, phase_at, member_at, row_number_at, crank_total}
use Rattle.image_layout.specs.Letters.{letter_of, leads_to}
use Rattle.image_layout.specs.Faults.{first_of, first_from, in_range}
use Rattle.image_layout.specs.ListRules.{is_padding}

-- four zeros, as state 0 has them
abbrev pub is_dead : ℕ → ℕ → ℕ → ℕ → Bool
is_dead phase kind e f = (phase == 0) && (kind == 0) && (e == 0) && (f == 0)

-- the kind `at`: its first number is a crank edge, its second 0
abbrev pub is_at : ℕ → ℕ → ℕ → ℕ → Bool
is_at cranks kind e f = (kind == 1) && nat_lt e cranks && (f == 0)

-- the kind `open`: its numbers are two places of different positions, the lesser first
abbrev pub is_open : List ℕ → ℕ → ℕ → ℕ → Bool
is_open b kind e f =
    (kind == 2) && nat_lt e f && nat_lt f (place_total b) && not ((place_at b e).j == (place_at b f).j)

-- a phase is at most 5, and 0 in state 1
abbrev pub is_phase : ℕ → ℕ → Bool
is_phase q phase = nat_le phase 5 && (not (q == 1) || (phase == 0))

-- a state's four words are those of state 0, or a phase and a kind
abbrev pub is_kind : List ℕ → ℕ → ℕ → ℕ → ℕ → ℕ → Bool
is_kind b q phase kind e f =
    if q == 0 then is_dead phase kind e f
    else (is_phase q phase && (is_at (crank_total b) kind e f || is_open b kind e f))

-- a state's kind is in range
abbrev pub kind_fault : List ℕ → ℕ → Option ImageFault
kind_fault b q = in_range 5 q (is_kind b q (kind_word_at b q 0) (kind_word_at b q 1) (kind_word_at b q 2) (kind_word_at b q 3))

-- section 5: the phases and kinds
unfoldable pub kinds_fault : List ℕ → Option ImageFault
kinds_fault b = first_from 0 (state_total b) (kind_fault b)

-- how many places stand in the last word of a set
abbrev pub last_bits : List ℕ → ℕ
last_bits b = place_total b - 64 * (set_words b - 1)

-- the last word of a set has no bit from the number of places on, and state 0 has no member
abbrev pub is_set : List ℕ → ℕ → Bool
is_set b q =
    nat_lt (member_at b q (set_words b - 1)) (2 ^ last_bits b)
    && (nat_lt 0 q || is_padding b (members_begin b) (members_begin b + 8 * set_words b))

-- a state's set is in range
abbrev pub set_fault : List ℕ → ℕ → Option ImageFault
set_fault b q = in_range 6 q (is_set b q)

-- section 6: the member sets
unfoldable pub members_fault : List ℕ → Option ImageFault
members_fault b = first_from 0 (state_total b) (set_fault b)

-- an entry is 0, or in another row than that of state 0 a state of the phase that its column leads to
abbrev pub is_entry : List ℕ → ℕ → ℕ → ℕ → Bool
is_entry b q column to =
    (to == 0)
    || (nat_lt 0 q && nat_lt to (state_total b)
    && leads_to (letter_of (time_total b) (ratio_total b) column) (phase_at b q) (phase_at b to))

-- entry e of all rows is in range
abbrev pub entry_fault : List ℕ → ℕ → Option ImageFault
entry_fault b e = in_range 7 e (is_entry b (e / row_width b) (e % row_width b) (row_number_at b e))

-- section 7: the rows, and zeros behind
unfoldable pub rows_fault : List ℕ → Option ImageFault
rows_fault b = first_of (
    first_from 0 (state_total b * row_width b) (entry_fault b)
    ∷ in_range 7 (state_total b * row_width b) (is_padding b (rows_end b) (image_end b))
    ∷ [])
