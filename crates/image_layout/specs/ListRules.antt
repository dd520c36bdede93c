-- The rules of the sections 1 to 4: slots, places and cuts.
use Rattle.std.specs.Prelude.{ℕ, ◌+◌, ◌-◌, ◌*◌, ◌==◌, ◌&&◌, ◌||◌, Bool, nat_lt, nat_le, List, [], ◌∷◌, slice_range, Option, unsigned_abs, int_lt}
use Rattle.std.specs.List.{list_all}
use Rattle.std.specs.Ordering.{int_eq}
use Rattle.wheel_types.specs.declared.place.Place.{Place}
use Rattle.image_layout.specs.declared.fault.ImageFault.{ImageFault}
use Rattle.image_layout.specs.Layout.{slot_total, place_total, time_total, ratio_total, slots_begin, places_begin, times_begin}
use Rattle.image_layout.specs.Fields.{slot_at, place_at, time_cut_at, ratio_top_at, ratio_bottom_at, crank_total}
use Rattle.image_layout.specs.Faults.{first_of, first_from, in_range, in_order}

-- the bytes from a place to another are zero
abbrev pub is_padding : List ℕ → ℕ → ℕ → Bool
is_padding b from to = list_all (λ x. x == 0) (slice_range b from to)

-- a slot has three bits
abbrev pub slot_fault : List ℕ → ℕ → Option ImageFault
slot_fault b k = in_range 1 k (nat_le (slot_at b k) 7)

-- section 1: the slots, an edge of the crank that is kept, and zeros behind
unfoldable pub slots_fault : List ℕ → Option ImageFault
slots_fault b = first_of (
    first_from 0 (slot_total b) (slot_fault b)
    ∷ in_range 1 (slot_total b) (nat_le 1 (crank_total b))
    ∷ in_range 1 (slot_total b) (is_padding b (slots_begin b + slot_total b) (places_begin b))
    ∷ [])

-- a place's position is a crank edge, and its cam indices are below 2 to the 20 in size
abbrev pub is_place : ℕ → Place → Bool
is_place cranks p = nat_lt p.j cranks && nat_lt (unsigned_abs p.n1) 1048576 && nat_lt (unsigned_abs p.n2) 1048576

-- a place is below another, in the order of j, n1 and n2
abbrev pub is_below : Place → Place → Bool
is_below p q = nat_lt p.j q.j || ((p.j == q.j) && (int_lt p.n1 q.n1 || (int_eq p.n1 q.n1 && int_lt p.n2 q.n2)))

-- a place is in range, and above the one before
abbrev pub place_fault : List ℕ → ℕ → Option ImageFault
place_fault b k = first_of (
    in_range 2 k (is_place (crank_total b) (place_at b k))
    ∷ in_order 2 k ((k == 0) || is_below (place_at b (k - 1)) (place_at b k))
    ∷ [])

-- section 2: the places, and zeros behind
unfoldable pub places_fault : List ℕ → Option ImageFault
places_fault b = first_of (
    first_from 0 (place_total b) (place_fault b)
    ∷ in_range 2 (place_total b) (is_padding b (places_begin b + 12 * place_total b) (times_begin b))
    ∷ [])

-- a time cut is at least 1, and above the one before
abbrev pub time_cut_fault : List ℕ → ℕ → Option ImageFault
time_cut_fault b k = first_of (
    in_range 3 k (nat_le 1 (time_cut_at b k))
    ∷ in_order 3 k ((k == 0) || nat_lt (time_cut_at b (k - 1)) (time_cut_at b k))
    ∷ [])

-- section 3: the time cuts
unfoldable pub time_cuts_fault : List ℕ → Option ImageFault
time_cuts_fault b = first_from 0 (time_total b) (time_cut_fault b)

-- a ratio cut is below the next, by cross products
abbrev pub is_ratio_below : List ℕ → ℕ → ℕ → Bool
is_ratio_below b k next = nat_lt (ratio_top_at b k * ratio_bottom_at b next) (ratio_top_at b next * ratio_bottom_at b k)

-- a ratio cut's numbers are at least 1, and it is above the one before as a fraction
abbrev pub ratio_cut_fault : List ℕ → ℕ → Option ImageFault
ratio_cut_fault b k = first_of (
    in_range 4 k (nat_le 1 (ratio_top_at b k) && nat_le 1 (ratio_bottom_at b k))
    ∷ in_order 4 k ((k == 0) || is_ratio_below b (k - 1) k)
    ∷ [])

-- section 4: the ratio cuts
unfoldable pub ratio_cuts_fault : List ℕ → Option ImageFault
ratio_cuts_fault b = first_from 0 (ratio_total b) (ratio_cut_fault b)
