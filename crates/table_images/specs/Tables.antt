-- The table of an alphabet, and the parts that are made of it.
use Rattle.std.specs.Prelude.{◌≡◌, ℕ, ◌*◌, ◌^◌, ◌<◌, ◌≤◌, List, length, map, flat_map, slice_get, slice_index, Some}
use Rattle.wheel_types.specs.declared.parts.WheelParts.{WheelParts}
use Rattle.gap_thresholds.specs.declared.cut.Cut.{Cut}
use Rattle.gap_thresholds.specs.Classes.{times_of, ratios_of}
use Rattle.image_layout.specs.declared.parts.ImageParts.{ImageParts}
use Rattle.position_nfa.specs.declared.pair.Pair.{Pair}
use Rattle.position_nfa.specs.Alphabets.{Alphabet, IsAlphabetOf, count, width}
use Rattle.position_nfa.specs.Families.{IsLeastFamily, IsNumbering}
use Rattle.position_nfa.specs.Sound.{AreDue}
use Rattle.position_nfa.specs.Step.{dead_state, start_state}
use Rattle.subset_build.specs.Limit.{effective_limit}
use Rattle.table_images.specs.Kinds.{AreSets, KindsSayTo}

-- a table of an alphabet: its states are the least family, with the compiler's numbers, and within the limit that holds
pub record IsTable (w : WheelParts) (a : Alphabet) (limit : ℕ) (states : List Pair) : Type 0 where
  pub alphabet : IsAlphabetOf w a
  pub some : 1 ≤ count a
  pub family : IsLeastFamily a states
  pub numbering : IsNumbering a states
  pub within : length states ≤ effective_limit a limit
  pub dead : slice_get states 0 ≡ Some (dead_state a)
  pub start : slice_get states 1 ≡ Some (start_state a)
  pub sets : AreSets a states

-- the entries of rows for each state, each due
pub record HasRows (a : Alphabet) (states : List Pair) (rows : List ℕ) : Type 0 where
  pub due : AreDue a states rows
  pub long : length rows ≡ length states * width a

-- the parts are those of the table
pub record AreParts (w : WheelParts) (a : Alphabet) (states : List Pair) (p : ImageParts) : Type 0 where
  pub wheel : p.wheel ≡ w
  pub places : p.places.items ≡ a.places
  pub times : p.time_cuts.items ≡ map (λ (c : Cut). c.top) (times_of a.cuts)
  pub ratios : p.ratio_cuts.items ≡ map (λ (c : Cut). (c.top, c.bottom)) (ratios_of a.cuts)
  pub phases : p.phases.items ≡ map (λ (s : Pair). s.phase) states
  pub kinds : KindsSayTo a states (length states) p.kinds.items
  pub members : p.members.items ≡ flat_map (λ (s : Pair). s.set) states
  pub rows : HasRows a states p.rows.items
  pub times_fit : (k : ℕ) → slice_index p.time_cuts.items k < 2 ^ 64
  pub rows_fit : (k : ℕ) → slice_index p.rows.items k < 2 ^ 16
