-- What is known of bytes that break no rule.
use Rattle.std.specs.Prelude.{◌≡◌, ℕ, ◌*◌, ◌≤◌, List, length}
use Rattle.image_layout.specs.declared.sections.Sections.{Sections}
use Rattle.image_layout.specs.Layout.{slot_total, place_total, time_total, ratio_total, state_total, set_words, row_width, places_begin, times_begin, ratios_begin, kinds_begin, members_begin, rows_begin, image_end}

-- the counts are within their limits
pub record AreCounts (b : List ℕ) : Type 0 where
  pub slots : (2 ≤ slot_total b) × (slot_total b ≤ 4096)
  pub places : (1 ≤ place_total b) × (place_total b ≤ 16384)
  pub times : time_total b ≤ 8192
  pub ratios : ratio_total b ≤ 8192
  pub states : (2 ≤ state_total b) × (state_total b ≤ 65535)
  pub members : state_total b * set_words b ≤ 8388608
  pub rows : state_total b * row_width b ≤ 8388608

-- the counts and places of the sections, as numbers at hand
pub record AreSections (s : Sections) (b : List ℕ) : Type 0 where
  pub slots : s.slots ≡ slot_total b
  pub places : s.places ≡ place_total b
  pub times : s.times ≡ time_total b
  pub ratios : s.ratios ≡ ratio_total b
  pub states : s.states ≡ state_total b
  pub words : s.words ≡ set_words b
  pub width : s.width ≡ row_width b
  pub places_at : s.places_at ≡ places_begin b
  pub times_at : s.times_at ≡ times_begin b
  pub ratios_at : s.ratios_at ≡ ratios_begin b
  pub kinds_at : s.kinds_at ≡ kinds_begin b
  pub members_at : s.members_at ≡ members_begin b
  pub rows_at : s.rows_at ≡ rows_begin b

-- bytes of the length that their counts tell
pub record AreLaid (s : Sections) (b : List ℕ) : Type 0 where
  pub counts : AreCounts b
  pub sections : AreSections s b
  pub long : length b ≡ image_end b
