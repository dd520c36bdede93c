-- The bytes of the parts of an image.
use Rattle.std.specs.Prelude.{◌≡◌, ℕ, ◌+◌, ◌-◌, ◌*◌, ◌≤◌, List, [], ◌∷◌, ◌++◌, length, replicate, flat_map, slice_index, slice_index_or}
use Rattle.std.specs.Int.{cast_unsigned, w32}
use Rattle.byteorder.specs.Endian.{little_bytes}
use Rattle.wheel_types.specs.declared.place.Place.{Place}
use Rattle.wheel_types.specs.declared.channel.Keep.{Keep}
use Rattle.wheel_types.specs.declared.channel.Keep.TheVariants.{Rising, Falling, Both}
use Rattle.wheel_types.specs.Edges.{below}
use Rattle.image_layout.specs.declared.kind.Kind.{Kind}
use Rattle.image_layout.specs.declared.kind.Kind.TheVariants.{Dead, At, Open}
use Rattle.image_layout.specs.declared.parts.ImageParts.{ImageParts}
use Rattle.image_layout.specs.Layout.{padded_to}

-- the four bytes of a word, lowest first
unfoldable pub word : ℕ → List ℕ
word n = little_bytes 4 n

-- the bytes of words, one after the other
abbrev pub words : List ℕ → List ℕ
words ns = flat_map word ns

-- the zeros after a section of this length, up to a multiple of 8
abbrev pub zeros_after : ℕ → List ℕ
zeros_after length = replicate (padded_to length - length) 0

-- the two bits of a channel's kept edges
abbrev pub keep_code : Keep → ℕ
keep_code Rising = 1
keep_code Falling = 2
keep_code Both = 3

-- the words of a place
abbrev pub place_words : Place → List ℕ
place_words p = p.j ∷ cast_unsigned w32 p.n1 ∷ cast_unsigned w32 p.n2 ∷ []

-- the words of a ratio cut, its top and its bottom
abbrev pub ratio_words : ℕ × ℕ → List ℕ
ratio_words cut = cut.0 ∷ cut.1 ∷ []

-- the words of a phase and a kind
abbrev pub kind_words : ℕ → Kind → List ℕ
kind_words phase Dead = phase ∷ 0 ∷ 0 ∷ 0 ∷ []
kind_words phase (At j) = phase ∷ 1 ∷ j ∷ 0 ∷ []
kind_words phase (Open e f) = phase ∷ 2 ∷ e ∷ f ∷ []

-- the words of state q
abbrev pub state_words : ImageParts → ℕ → List ℕ
state_words p q = kind_words (slice_index p.phases.items q) (slice_index_or p.kinds.items q Dead)

-- the sections 1 to 7, with their padding
abbrev pub body : ImageParts → List ℕ
body p =
    p.wheel.slots ++ zeros_after (length p.wheel.slots)
    ++ flat_map (λ place. words (place_words place)) p.places.items ++ zeros_after (12 * length p.places.items)
    ++ flat_map (little_bytes 8) p.time_cuts.items
    ++ flat_map (λ cut. words (ratio_words cut)) p.ratio_cuts.items
    ++ flat_map (λ q. words (state_words p q)) (below (length p.phases.items))
    ++ flat_map (little_bytes 8) p.members.items
    ++ flat_map (little_bytes 2) p.rows.items ++ zeros_after (2 * length p.rows.items)

-- the words of section 0, the header, before sections of this length
abbrev pub header_words : ImageParts → ℕ → List ℕ
header_words p size =
    0x4e595357 ∷ 1 ∷ (72 + size)
    ∷ length p.wheel.slots ∷ length p.places.items ∷ length p.time_cuts.items ∷ length p.ratio_cuts.items ∷ length p.phases.items
    ∷ p.wheel.degrees ∷ (keep_code p.wheel.crank + 4 * keep_code p.wheel.cam1 + 16 * keep_code p.wheel.cam2)
    ∷ p.wheel.cam1_early ∷ p.wheel.cam1_late ∷ p.wheel.cam2_early ∷ p.wheel.cam2_late
    ∷ p.wheel.rpm_low ∷ p.wheel.rpm_high ∷ p.wheel.rn ∷ p.wheel.rd ∷ []

-- the bytes of an image
abbrev pub image_bytes : ImageParts → List ℕ
image_bytes p = words (header_words p (length (body p))) ++ body p

-- no list is longer than the table lets it be, and each state has a phase and a kind
pub record AreSmall (p : ImageParts) : Type 0 where
  pub slots : length p.wheel.slots ≤ 4096
  pub places : length p.places.items ≤ 16384
  pub times : length p.time_cuts.items ≤ 8192
  pub ratios : length p.ratio_cuts.items ≤ 8192
  pub states : length p.phases.items ≤ 65535
  pub kinds : length p.kinds.items ≡ length p.phases.items
  pub members : length p.members.items ≤ 8388608
  pub rows : length p.rows.items ≤ 8388608
