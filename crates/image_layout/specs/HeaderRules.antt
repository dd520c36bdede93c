-- The rules of the header, section 0, each with the fault that names it.
use Rattle.std.specs.Prelude.{ℕ, ◌+◌, ◌*◌, ◌/◌, ◌%◌, ◌==◌, ◌&&◌, ◌||◌, Bool, nat_lt, nat_le, List, [], ◌∷◌, length, Option}
use Rattle.image_layout.specs.declared.fault.ImageFault.{ImageFault}
use Rattle.image_layout.specs.declared.fault.ImageFault.TheVariants.{Magic, Version, Short, Extra}
use Rattle.image_layout.specs.Layout.{word_at, slot_total, place_total, time_total, ratio_total, state_total, words_for, width_for, image_end}
use Rattle.image_layout.specs.Faults.{first_of, unless, in_range}

-- the bytes begin with `WSYN`, have a whole header and are of version 1
unfoldable pub front_fault : List ℕ → Option ImageFault
front_fault b = first_of (
    unless (nat_le 4 (length b) && (word_at b 0 == 0x4e595357)) Magic
    ∷ unless (nat_le 72 (length b)) Short
    ∷ unless (word_at b 4 == 1) Version
    ∷ [])

-- so many states fit the limits: at most 65,535, and at most 2 to the 23 words and entries of all
abbrev pub are_states : ℕ → ℕ → ℕ → ℕ → Bool
are_states places times ratios states =
    nat_le 2 states && nat_le states 65535
    && nat_le (states * words_for places) 8388608
    && nat_le (states * width_for times ratios) 8388608

-- the words 12 to 28, the counts, are within their limits
unfoldable pub counts_fault : List ℕ → Option ImageFault
counts_fault b = first_of (
    in_range 0 12 (nat_le 2 (slot_total b) && nat_le (slot_total b) 4096)
    ∷ in_range 0 16 (nat_le 1 (place_total b) && nat_le (place_total b) 16384)
    ∷ in_range 0 20 (nat_le (time_total b) 8192)
    ∷ in_range 0 24 (nat_le (ratio_total b) 8192)
    ∷ in_range 0 28 (are_states (place_total b) (time_total b) (ratio_total b) (state_total b))
    ∷ [])

-- two bits of the word of kept edges keep some edge
abbrev pub is_keep : ℕ → ℕ → Bool
is_keep word shift = nat_lt 0 (word / shift % 4)

-- each channel keeps some edge, and the word of kept edges has no other bits
abbrev pub are_keeps : ℕ → Bool
are_keeps word = is_keep word 1 && is_keep word 4 && is_keep word 16 && nat_lt word 64

-- the words 32 to 52: the cycle's degrees, the kept edges, and the cams' phasing. Words 40 and 48 are told at 44 and 52
unfoldable pub cams_fault : List ℕ → Option ImageFault
cams_fault b = first_of (
    in_range 0 32 ((word_at b 32 == 360) || (word_at b 32 == 720))
    ∷ in_range 0 36 (are_keeps (word_at b 36))
    ∷ in_range 0 44 (nat_lt (word_at b 40 + word_at b 44) (1000 * word_at b 32))
    ∷ in_range 0 52 (nat_lt (word_at b 48 + word_at b 52) (1000 * word_at b 32))
    ∷ [])

-- the words 56 to 68: the engine's speeds and its ratio
unfoldable pub engine_fault : List ℕ → Option ImageFault
engine_fault b = first_of (
    in_range 0 56 (nat_le 1 (word_at b 56) && nat_le (word_at b 56) (word_at b 60))
    ∷ in_range 0 60 (nat_le (word_at b 60) 30000)
    ∷ in_range 0 64 (nat_le (word_at b 64) 65535 && nat_le (word_at b 68) (word_at b 64))
    ∷ in_range 0 68 (nat_le 1 (word_at b 68))
    ∷ [])

-- the bytes are as many as the counts tell, and word 8 tells it too
unfoldable pub length_fault : List ℕ → Option ImageFault
length_fault b = first_of (
    unless (nat_le (image_end b) (length b)) Short
    ∷ unless (nat_le (length b) (image_end b)) Extra
    ∷ in_range 0 8 (word_at b 8 == image_end b)
    ∷ [])

-- the first rule of the header that the bytes break
unfoldable pub header_fault : List ℕ → Option ImageFault
header_fault b = first_of (front_fault b ∷ counts_fault b ∷ cams_fault b ∷ engine_fault b ∷ length_fault b ∷ [])
