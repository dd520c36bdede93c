-- How long the sections of an image are together.
use Rattle.std.proofs.Common.{◌≡◌, ℕ, ◌+◌, ◌-◌, ◌*◌, ◌^◌, ◌<◌, ◌≤◌, List, ◌++◌, length, length-append, get_or, refl, ◌∙◌, ap, arith}
use Rattle.std.proofs.lemmas.List.{length-replicate}
use Rattle.std.specs.Prelude.{flat_map}
use Rattle.byteorder.specs.Endian.{little_bytes}
use Rattle.image_layout.specs.declared.kind.Kind.{Kind}
use Rattle.image_layout.specs.declared.kind.Kind.TheVariants.{Dead, At, Open}
use Rattle.image_layout.specs.declared.parts.ImageParts.{ImageParts}
use Rattle.image_layout.specs.Layout.{padded_to}
use Rattle.image_layout.specs.Parts.{body, zeros_after, place_words, ratio_words, kind_words, state_words, AreSmall}
use Rattle.image_layout.proofs.Below.{length-below}
use Rattle.image_layout.proofs.ReadBack.{body_is, places_numbers, ratios_numbers, states_numbers, length_numbers, length_each}
use Rattle.wheel_types.specs.Edges.{below}

four : (phase : ℕ) (kind : Kind) → length (kind_words phase kind) ≡ 4
four phase Dead = refl
four phase (At j) = refl
four phase (Open e f) = refl

few_zeros : (n : ℕ) → length (zeros_after n) ≤ 8
few_zeros n = let e : length (zeros_after n) ≡ padded_to n - n = length-replicate {A = ℕ} (padded_to n - n) 0 in omega (arith, e)

module _ (a b c d e f g i j k : List ℕ) where
  sum : length (a ++ (b ++ (c ++ (d ++ (e ++ (f ++ (g ++ (i ++ (j ++ k))))))))) ≡ length a + (length b + (length c + (length d + (length e + (length f + (length g + (length i + (length j + length k))))))))
  sum = simp length-append refl

-- far below 2 to the 32
pub body_short : (p : ImageParts) → AreSmall p → 72 + length (body p) < 2 ^ 32
body_short p small =
    let places = length_numbers 4 (places_numbers p) in
    let each_place = length_each place_words 3 p.places.items (λ x. refl) in
    let times = length_numbers 8 p.time_cuts.items in
    let ratios = length_numbers 4 (ratios_numbers p) in
    let each_ratio = length_each ratio_words 2 p.ratio_cuts.items (λ x. refl) in
    let states = length_numbers 4 (states_numbers p) in
    let each_state = length_each (state_words p) 4 (below (length p.phases.items)) (λ q. four (get_or p.phases.items q 0) (get_or p.kinds.items q Dead)) in
    let count = length-below (length p.phases.items) in
    let members = length_numbers 8 p.members.items in
    let rows = length_numbers 2 p.rows.items in
    let zeros1 = few_zeros (length p.wheel.slots) in
    let zeros2 = few_zeros (12 * length p.places.items) in
    let zeros3 = few_zeros (2 * length p.rows.items) in
    let total = ap length (body_is p) ∙ sum p.wheel.slots (zeros_after (length p.wheel.slots)) (flat_map (little_bytes 4) (places_numbers p)) (zeros_after (12 * length p.places.items)) (flat_map (little_bytes 8) p.time_cuts.items) (flat_map (little_bytes 4) (ratios_numbers p)) (flat_map (little_bytes 4) (states_numbers p)) (flat_map (little_bytes 8) p.members.items) (flat_map (little_bytes 2) p.rows.items) (zeros_after (2 * length p.rows.items)) in
    omega (arith, total, places, each_place, times, ratios, each_ratio, states, each_state, count, members, rows, zeros1, zeros2, zeros3, small.slots, small.places, small.times, small.ratios, small.states, small.members, small.rows)
