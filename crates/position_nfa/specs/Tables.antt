-- Tables of what the letters make of sets.
use Rattle.std.specs.Prelude.{◌≡◌, ℕ, ◌+◌, ◌<◌, ◌≤◌, List, length, slice_index_or}
use Rattle.wheel_types.specs.declared.place.Place.{Place}
use Rattle.wheel_types.specs.declared.parts.WheelParts.{WheelParts}
use Rattle.position_nfa.specs.declared.walks.Walks.{Walks}
use Rattle.position_nfa.specs.Alphabets.{Alphabet, wheel, count, nth, place, time_classes, ratio_classes}
use Rattle.position_nfa.specs.BitTables.{IsBitTable}
use Rattle.position_nfa.specs.Walking.{IsWalkTable}
use Rattle.position_nfa.specs.Sets.{keeps_time, keeps_ratio, walk_end}

-- each shape has its walks, in the order of their numbers
abbrev pub AreAllWalks : WheelParts → List Place → List Walks → Type 0
AreAllWalks w ps walks =
    (s : ℕ) (d : Walks) → s < length walks
    → IsWalkTable (length ps) (λ i. walk_end w (s + 1) (nth ps i)) (nth ps)
    (slice_index_or walks s d).sources (slice_index_or walks s d).targets

-- the tables are those of the alphabet
pub record AreTables (a : Alphabet) (time_masks ratio_masks : List ℕ) (walks : List Walks) : Type 0 where
  pub some : 1 ≤ count a
  pub few : count a ≤ 16384
  pub distinct : (i k : ℕ) → i < count a → k < count a → place a i ≡ place a k → i ≡ k
  pub few_times : time_classes a ≤ 8193
  pub few_ratios : ratio_classes a ≤ 16385
  pub times : IsBitTable (count a) (time_classes a) (keeps_time a) time_masks
  pub ratios : IsBitTable (count a) (ratio_classes a) (keeps_ratio a) ratio_masks
  pub shapes : length walks ≡ 26
  pub moves : AreAllWalks (wheel a) a.places walks
