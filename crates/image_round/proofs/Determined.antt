-- Parts that keep the rules are determined by the bytes that are written of them.
use Rattle.std.proofs.Common.{◌≡◌, ℕ, ◌*◌, ◌<◌, List, length, get_or, sym, ap, ◌∙◌, arith}
use Rattle.std.proofs.lemmas.List.{ext_get_or}
use Rattle.std.specs.Prelude.{map}
use Rattle.wheel_types.specs.Edges.{below}
use Rattle.image_layout.specs.declared.kind.Kind.TheVariants.{Dead}
use Rattle.image_layout.specs.declared.parts.ImageParts.{ImageParts}
use Rattle.image_layout.specs.Layout.{place_total, time_total, ratio_total, state_total, set_words, row_width}
use Rattle.image_layout.specs.Fields.{place_at, time_cut_at, phase_at, kind_at, row_number_at, wheel_parts_of}
use Rattle.image_layout.specs.Parts.{image_bytes}
use Rattle.image_layout.proofs.ReadBack.{place_total_is, time_total_is, ratio_total_is, state_total_is, time_cut_is, ratio_cut_is, member_is, row_number_is}
use Rattle.image_layout.proofs.WheelBack.{wheel_is}
use Rattle.image_layout.proofs.PartsKept.{phase_is}
use Rattle.image_round.specs.Parts.{KeepsRules}
use Rattle.image_round.specs.Laws.{AreSameParts}
use Rattle.image_round.proofs.Fitting.{no_place, fits}
use Rattle.image_round.proofs.Laid.{place_back}
use Rattle.image_round.proofs.Back.{kind_back}
use Rattle.image_round.proofs.PartsOf.{table_long, table_at, member_number, ratio_cut_at}

-- a list by its elements
listed : {X : Type 0} (f : ℕ → X) (xs : List X) (n : ℕ) (d : X) → n ≡ length xs → ((k : ℕ) → k < length xs → f k ≡ get_or xs k d) → map f (below n) ≡ xs
listed f xs n d e each =
    let size : length (map f (below n)) ≡ n = table_long f n in
    ext_get_or d (map f (below n)) xs (size ∙ e) (λ k lt. let there : k < n = omega (arith, lt, size) in table_at f n k d there ∙ each k (omega (arith, there, e)))

-- the lists of the parts, read of the bytes
module _ (p : ImageParts) (k : KeepsRules p) where
  places : map (place_at (image_bytes p)) (below (place_total (image_bytes p))) ≡ p.places.items
  places = listed (place_at (image_bytes p)) p.places.items (place_total (image_bytes p)) no_place (place_total_is p (fits p k)) (place_back p k)

  times : map (time_cut_at (image_bytes p)) (below (time_total (image_bytes p))) ≡ p.time_cuts.items
  times = listed (time_cut_at (image_bytes p)) p.time_cuts.items (time_total (image_bytes p)) 0 (time_total_is p (fits p k)) (time_cut_is p (fits p k))

  ratios : map (ratio_cut_at (image_bytes p)) (below (ratio_total (image_bytes p))) ≡ p.ratio_cuts.items
  ratios = listed (ratio_cut_at (image_bytes p)) p.ratio_cuts.items (ratio_total (image_bytes p)) (0, 0) (ratio_total_is p (fits p k)) (λ i lt. let r = ratio_cut_is p (fits p k) i lt in λ t. (r.0 t, r.1 t))

  phases : map (phase_at (image_bytes p)) (below (state_total (image_bytes p))) ≡ p.phases.items
  phases = listed (phase_at (image_bytes p)) p.phases.items (state_total (image_bytes p)) 0 (state_total_is p (fits p k)) (phase_is p (fits p k))

  kinds : map (kind_at (image_bytes p)) (below (state_total (image_bytes p))) ≡ p.kinds.items
  kinds =
      let same = k.sizes.small.kinds in
      listed (kind_at (image_bytes p)) p.kinds.items (state_total (image_bytes p)) Dead (state_total_is p (fits p k) ∙ sym same) (λ q lt. kind_back p k q (omega (arith, lt, same)))

  members : map (member_number (image_bytes p)) (below (state_total (image_bytes p) * set_words (image_bytes p))) ≡ p.members.items
  members =
      let total : state_total (image_bytes p) * set_words (image_bytes p) ≡ length p.members.items = rw (state_total_is p (fits p k), place_total_is p (fits p k)) (sym k.sizes.sets) in
      listed (member_number (image_bytes p)) p.members.items (state_total (image_bytes p) * set_words (image_bytes p)) 0 total (member_is p (fits p k))

  rows : map (row_number_at (image_bytes p)) (below (state_total (image_bytes p) * row_width (image_bytes p))) ≡ p.rows.items
  rows =
      let total : state_total (image_bytes p) * row_width (image_bytes p) ≡ length p.rows.items =
      rw (state_total_is p (fits p k), time_total_is p (fits p k), ratio_total_is p (fits p k)) (sym k.sizes.entries) in
      listed (row_number_at (image_bytes p)) p.rows.items (state_total (image_bytes p) * row_width (image_bytes p)) 0 total (row_number_is p (fits p k))

pub determined : (p q : ImageParts) → KeepsRules p → KeepsRules q → image_bytes p ≡ image_bytes q → AreSameParts p q
determined p q k l e = record {
  wheel = sym (wheel_is p (fits p k)) ∙ (ap wheel_parts_of e ∙ wheel_is q (fits q l));
  places = sym (places p k) ∙ (ap (λ (b : List ℕ). map (place_at b) (below (place_total b))) e ∙ places q l);
  time_cuts = sym (times p k) ∙ (ap (λ (b : List ℕ). map (time_cut_at b) (below (time_total b))) e ∙ times q l);
  ratio_cuts = sym (ratios p k) ∙ (ap (λ (b : List ℕ). map (ratio_cut_at b) (below (ratio_total b))) e ∙ ratios q l);
  phases = sym (phases p k) ∙ (ap (λ (b : List ℕ). map (phase_at b) (below (state_total b))) e ∙ phases q l);
  kinds = sym (kinds p k) ∙ (ap (λ (b : List ℕ). map (kind_at b) (below (state_total b))) e ∙ kinds q l);
  members = sym (members p k) ∙ (ap (λ (b : List ℕ). map (member_number b) (below (state_total b * set_words b))) e ∙ members q l);
  rows = sym (rows p k) ∙ (ap (λ (b : List ℕ). map (row_number_at b) (below (state_total b * row_width b))) e ∙ rows q l);
}
