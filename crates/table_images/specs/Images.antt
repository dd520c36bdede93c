-- The table that the bytes of an image hold, and when it is that of the image's own wheel.
use Rattle.std.specs.Prelude.{◌≡◌, ℕ, ◌*◌, ◌≤◌, List, length, map}
use Rattle.wheel_types.specs.declared.parts.WheelParts.{WheelParts}
use Rattle.wheel_types.specs.Edges.{below}
use Rattle.image_layout.specs.Layout.{place_total, time_total, ratio_total, state_total, set_words, row_width}
use Rattle.image_layout.specs.Fields.{place_at, time_cut_at, ratio_top_at, ratio_bottom_at, phase_at, kind_at, member_at, row_number_at, wheel_parts_of}
use Rattle.image_layout.specs.Tables.{KeepsLayout}
use Rattle.position_nfa.specs.declared.pair.Pair.{Pair}
use Rattle.position_nfa.specs.Alphabets.{Alphabet, IsAlphabetOf}
use Rattle.position_nfa.specs.Families.{IsNumbering}
use Rattle.position_nfa.specs.Sound.{TableParts, AreSound, AreSoundOver}
use Rattle.subset_build.specs.Families.{HasMore}
use Rattle.subset_build.specs.Limit.{effective_limit}
use Rattle.table_images.specs.Kinds.{says_of}

-- the words of the set of state q
abbrev pub set_at : List ℕ → ℕ → List ℕ
set_at b q = map (member_at b q) (below (set_words b))

-- state q, by its phase and its set
abbrev pub state_at : List ℕ → ℕ → Pair
state_at b q = record { phase = phase_at b q; set = set_at b q }

-- the table that the bytes hold
abbrev pub table_of : List ℕ → TableParts
table_of b = record {
  places = map (place_at b) (below (place_total b));
  time_cuts = map (time_cut_at b) (below (time_total b));
  ratio_cuts = map (λ k. (ratio_top_at b k, ratio_bottom_at b k)) (below (ratio_total b));
  states = map (state_at b) (below (state_total b));
  says = map (λ q. says_of (kind_at b q)) (below (state_total b));
  rows = map (row_number_at b) (below (state_total b * row_width b));
}

-- the bytes keep the layout, and the table that they hold is sound for the wheel that they hold
pub record IsSoundImage (b : List ℕ) : Type 0 where
  pub layout : KeepsLayout b
  pub sound : AreSound (wheel_parts_of b) (table_of b)

-- the bytes are the compiled image of the wheel: they keep the layout, they hold the wheel, their table is sound over its places and
-- cuts, the states have the compiler's numbers, and they are within the limit that holds
pub record IsCompiled (w : WheelParts) (limit : ℕ) (b : List ℕ) : Type 0 where
  pub layout : KeepsLayout b
  pub wheel : wheel_parts_of b ≡ w
  pub alphabet : Alphabet
  pub of_wheel : IsAlphabetOf w alphabet
  pub sound : AreSoundOver alphabet (table_of b)
  pub numbering : IsNumbering alphabet (table_of b).states
  pub within : length (table_of b).states ≤ effective_limit alphabet limit

-- the wheel's family has more states than the limit that holds, which is this one
pub record IsTooLarge (w : WheelParts) (given limit : ℕ) : Type 0 where
  pub alphabet : Alphabet
  pub of_wheel : IsAlphabetOf w alphabet
  pub holds : limit ≡ effective_limit alphabet given
  pub more : HasMore alphabet limit
