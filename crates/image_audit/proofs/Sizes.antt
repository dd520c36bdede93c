-- What the agreement of the lists says of sizes.
use Rattle.std.proofs.Common.{◌≡◌, ℕ, List, length, sym, ap, ◌∙◌, arith}
use Rattle.std.specs.Prelude.{map}
use Rattle.std.proofs.lemmas.List.{length-map}
use Rattle.wheel_types.specs.declared.place.Place.{Place}
use Rattle.wheel_types.specs.Edges.{below}
use Rattle.gap_thresholds.specs.declared.cut.Cut.{Cut}
use Rattle.gap_thresholds.specs.Classes.{times_of, ratios_of}
use Rattle.image_layout.specs.Layout.{place_total, time_total, ratio_total, row_width}
use Rattle.image_layout.specs.Fields.{place_at, time_cut_at, ratio_top_at, ratio_bottom_at}
use Rattle.image_layout.proofs.Below.{length-below}
use Rattle.position_nfa.specs.Alphabets.{Alphabet, count, width}
use Rattle.image_audit.specs.Agreements.{AgreesInLists}

pub length-listed : {X : Type 0} (f : ℕ → X) (n : ℕ) → length (map f (below n)) ≡ n
length-listed f n = length-map (below n) f ∙ length-below n

module _ (a : Alphabet) (b : List ℕ) (lists : AgreesInLists a b) where
  pub count_same : place_total b ≡ count a
  count_same = sym (length-listed (place_at b) (place_total b)) ∙ ap (λ (l : List Place). length l) lists.places

  times_same : time_total b ≡ length (times_of a.cuts)
  times_same = sym (length-listed (time_cut_at b) (time_total b)) ∙ (ap (λ (l : List ℕ). length l) lists.times ∙ length-map (times_of a.cuts) (λ (c : Cut). c.top))

  ratios_same : ratio_total b ≡ length (ratios_of a.cuts)
  ratios_same = sym (length-listed {X = ℕ × ℕ} (λ k. (ratio_top_at b k, ratio_bottom_at b k)) (ratio_total b)) ∙ (ap (λ (l : List (ℕ × ℕ)). length l) lists.ratios ∙ length-map {B = ℕ × ℕ} (ratios_of a.cuts) (λ (c : Cut). (c.top, c.bottom)))

  pub width_same : row_width b ≡ width a
  width_same = omega (arith, times_same, ratios_same)
