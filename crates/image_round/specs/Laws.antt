-- The round trip of an image's parts.
use Rattle.std.specs.Prelude.{◌≡◌, ℕ, ◌+◌, ◌^◌, ◌<◌, List, All, length, slice_index}
use Rattle.image_layout.specs.declared.parts.ImageParts.{ImageParts}
use Rattle.image_layout.specs.Layout.{slot_total, place_total, time_total, ratio_total, state_total}
use Rattle.image_layout.specs.Fields.{place_at, time_cut_at, ratio_top_at, ratio_bottom_at, kind_word_at, phase_at, kind_at, member_at, entry_at, wheel_parts_of}
use Rattle.image_layout.specs.Parts.{image_bytes, body, state_words, AreSmall}
use Rattle.image_layout.specs.Tables.{KeepsLayout}
use Rattle.image_round.specs.Parts.{KeepsRules, states_of, words_of, width_of, place_of, time_cut_of, ratio_cut_of, phase_of, kind_of, member_of, entry_of}

-- the counts that the bytes tell are those of the lists
pub record CountsReadBack (p : ImageParts) : Type 0 where
  pub slots : slot_total (image_bytes p) ≡ length p.wheel.slots
  pub places : place_total (image_bytes p) ≡ length p.places.items
  pub times : time_total (image_bytes p) ≡ length p.time_cuts.items
  pub ratios : ratio_total (image_bytes p) ≡ length p.ratio_cuts.items
  pub states : state_total (image_bytes p) ≡ states_of p

-- the fields of the bytes are the parts
pub record ReadsBack (p : ImageParts) : Type 0 where
  pub counts : CountsReadBack p
  pub wheel : wheel_parts_of (image_bytes p) ≡ p.wheel
  pub places : (k : ℕ) → k < length p.places.items → place_at (image_bytes p) k ≡ place_of p k
  pub time_cuts : (k : ℕ) → k < length p.time_cuts.items → time_cut_at (image_bytes p) k ≡ time_cut_of p k
  pub ratio_tops : (k : ℕ) → k < length p.ratio_cuts.items → ratio_top_at (image_bytes p) k ≡ (ratio_cut_of p k).0
  pub ratio_bottoms : (k : ℕ) → k < length p.ratio_cuts.items → ratio_bottom_at (image_bytes p) k ≡ (ratio_cut_of p k).1
  pub phases : (q : ℕ) → q < states_of p → phase_at (image_bytes p) q ≡ phase_of p q
  pub kinds : (q : ℕ) → q < states_of p → kind_at (image_bytes p) q ≡ kind_of p q
  pub kind_words : (q w : ℕ) → q < states_of p → w < 4 → kind_word_at (image_bytes p) q w ≡ slice_index (state_words p q) w
  pub members : (q w : ℕ) → q < states_of p → w < words_of p → member_at (image_bytes p) q w ≡ member_of p q w
  pub entries : (q column : ℕ) → q < states_of p → column < width_of p → entry_at (image_bytes p) q column ≡ entry_of p q column

-- parts that keep the rules are what a writer asks for: small, and with a header that tells the length of all bytes
abbrev pub KeptPartsCanBeWritten : Type 0
KeptPartsCanBeWritten = (p : ImageParts) → KeepsRules p → AreSmall p × (72 + length (body p) < 2 ^ 32)

-- they are written as an image
abbrev pub KeptPartsAreImages : Type 0
KeptPartsAreImages = (p : ImageParts) → KeepsRules p → KeepsLayout (image_bytes p)

-- and are what is read of it
abbrev pub ImagesReadBack : Type 0
ImagesReadBack = (p : ImageParts) → KeepsRules p → ReadsBack p

-- the bytes are what is written of parts that keep the rules
pub record AreWritten (b : List ℕ) : Type 0 where
  pub parts : ImageParts
  pub kept : KeepsRules parts
  pub written : image_bytes parts ≡ b

-- bytes that keep the table of the layout are written of such parts
abbrev pub AcceptedImagesAreWritten : Type 0
AcceptedImagesAreWritten = (b : List ℕ) → All (λ x. x < 256) b → KeepsLayout b → AreWritten b

-- the same wheel and the same lists
pub record AreSameParts (p q : ImageParts) : Type 0 where
  pub wheel : p.wheel ≡ q.wheel
  pub places : p.places.items ≡ q.places.items
  pub time_cuts : p.time_cuts.items ≡ q.time_cuts.items
  pub ratio_cuts : p.ratio_cuts.items ≡ q.ratio_cuts.items
  pub phases : p.phases.items ≡ q.phases.items
  pub kinds : p.kinds.items ≡ q.kinds.items
  pub members : p.members.items ≡ q.members.items
  pub rows : p.rows.items ≡ q.rows.items

-- parts that keep the rules and are written as the same bytes are the same
abbrev pub PartsAreDetermined : Type 0
PartsAreDetermined = (p q : ImageParts) → KeepsRules p → KeepsRules q → image_bytes p ≡ image_bytes q → AreSameParts p q
