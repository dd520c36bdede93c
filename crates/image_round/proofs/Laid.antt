-- The bytes of parts that keep the rules keep the table of the layout.
use Rattle.std.proofs.Common.{◌≡◌, ◌⊎◌, ℕ, ◌+◌, ◌*◌, ◌^◌, ◌<◌, ◌≤◌, List, ◌++◌, length, get_or, sym, ap, subst, ◌∙◌, arith, take, drop}
use Rattle.std.proofs.Math.Nat.{mul-le-mul_right}
use Rattle.std.proofs.lemmas.List.{ext_get_or, take-append-drop, get_or-take, length-take-le, get_or-replicate, length-replicate, get_or_default}
use Rattle.std.specs.Prelude.{IsTrue, replicate}
use Rattle.wheel_types.specs.declared.place.Place.{Place}
use Rattle.image_layout.specs.declared.kind.Kind.{Kind}
use Rattle.image_layout.specs.declared.kind.Kind.TheVariants.{Dead, At, Open}
use Rattle.image_layout.specs.declared.parts.ImageParts.{ImageParts}
use Rattle.image_layout.specs.Layout.{time_total, ratio_total, row_width}
use Rattle.image_layout.specs.Letters.{letter_of, leads_to}
use Rattle.image_layout.specs.Fields.{place_at}
use Rattle.image_layout.specs.Parts.{image_bytes, body, AreSmall}
use Rattle.image_layout.specs.Tables as tables
use Rattle.image_layout.proofs.ReadBack.{place_is, time_total_is, ratio_total_is}
use Rattle.image_layout.proofs.PartsKept.{time_cuts_keep, ratio_cuts_keep, rows_keep}
use Rattle.table_images.proofs.BodySize.{body_short}
use Rattle.table_images.proofs.PartsLaid.{HasCounts, header_keeps, slots_keep, places_keep}
use Rattle.table_images.proofs.StatesLaid.{IsKindOf, kinds_keep, members_keep}
use Rattle.image_round.specs.Parts.{KeepsRules, Says, states_of, words_of, width_of, phase_of, kind_of}
use Rattle.image_round.proofs.Fitting.{no_place, place_range, place_ascends, phase_low, fits}

-- a list that begins with zeros
zeros_first : (n : ℕ) (xs : List ℕ) → n ≤ length xs → ((i : ℕ) → i < n → get_or xs i 0 ≡ 0) → xs ≡ replicate n 0 ++ drop n xs
zeros_first n xs long each =
    let front : length (take n xs) ≡ n = length-take-le n xs long in
    let zeros : length (replicate {A = ℕ} n 0) ≡ n = length-replicate {A = ℕ} n 0 in
    let same : take n xs ≡ replicate n 0 = ext_get_or 0 (take n xs) (replicate n 0) (front ∙ sym zeros) (λ i lt.
    let low : i < n = omega (arith, lt, front) in
    get_or-take n xs i 0 low ∙ (each i low ∙ sym (get_or-replicate n i 0 0 low))) in
    sym (take-append-drop n xs) ∙ ap (λ (ys : List ℕ). ys ++ drop n xs) same

module _ (p : ImageParts) (k : KeepsRules p) where
  counts : HasCounts p
  counts = record {
    some_places = k.sizes.some_places;
    some_states = k.sizes.some_states;
    few_members = k.sizes.small.members;
    few_rows = k.sizes.small.rows;
  }

  pub place_back : (i : ℕ) → i < length p.places.items → place_at (image_bytes p) i ≡ get_or p.places.items i no_place
  place_back i lt = let r = place_range p k i no_place lt in place_is p (fits p k) i no_place lt r.1 r.2

  kind_says : (x : Kind) → Says p x → IsKindOf p x
  kind_says Dead says = says
  kind_says (At j) says = says
  kind_says (Open e f) says =
      let low : e < length p.places.items = omega (arith, says.0, says.1) in
      (says.0, (says.1, λ d same. says.2 (ap (λ (x : Place). x.j) (get_or_default p.places.items e no_place d low) ∙ (same ∙ ap (λ (x : Place). x.j) (get_or_default p.places.items f d no_place says.1)))))

  members : tables.KeepsMembers (image_bytes p)
  members =
      let some_places = k.sizes.some_places in
      let some : 1 ≤ words_of p = omega (arith, some_places) in
      let first : 1 * words_of p ≤ states_of p * words_of p = mul-le-mul_right (words_of p) (let two = k.sizes.some_states in omega (arith, two)) in
      let long : words_of p ≤ length p.members.items = let sets = k.sizes.sets in omega (arith, first, sets) in
      members_keep p (fits p k) k.members.places some (drop (words_of p) p.members.items)
      (zeros_first (words_of p) p.members.items long (λ w lt. let place : 0 * words_of p + w ≡ w = omega arith in subst (λ n. get_or p.members.items n 0 ≡ 0) place (k.members.dead w lt)))

  pub wide : row_width (image_bytes p) ≡ width_of p
  wide = let times = time_total_is p (fits p k) in let ratios = ratio_total_is p (fits p k) in omega (arith, times, ratios)

  -- entry e of all rows leads as the table's letters say, where the table has so many time and ratio cuts
  abbrev LeadsBy : ℕ → ℕ → ℕ → ℕ → ℕ → Type 0
  LeadsBy times ratios q column e = (get_or p.rows.items e 0 ≡ 0) ⊎ IsTrue (leads_to (letter_of times ratios column) (phase_of p q) (phase_of p (get_or p.rows.items e 0)))

  leads : (q column : ℕ) → q < states_of p → column < row_width (image_bytes p) → LeadsBy (time_total (image_bytes p)) (ratio_total (image_bytes p)) q column (q * row_width (image_bytes p) + column)
  leads q column there lt =
      subst (λ t. LeadsBy t (ratio_total (image_bytes p)) q column (q * row_width (image_bytes p) + column)) (sym (time_total_is p (fits p k)))
      (subst (λ r. LeadsBy (length p.time_cuts.items) r q column (q * row_width (image_bytes p) + column)) (sym (ratio_total_is p (fits p k)))
      (subst (λ m. LeadsBy (length p.time_cuts.items) (length p.ratio_cuts.items) q column (q * m + column)) (sym wide) (k.rows.leads q column there (omega (arith, lt, wide)))))

  rows : tables.KeepsRows (image_bytes p)
  rows =
      rows_keep p (fits p k) (let two = k.sizes.some_states in omega (arith, two))
      (λ column lt. subst (λ m. get_or p.rows.items (0 * m + column) 0 ≡ 0) (sym wide) (k.rows.dead column (omega (arith, lt, wide))))
      (λ q column there lt. subst (λ m. get_or p.rows.items (q * m + column) 0 < states_of p) (sym wide) (k.rows.range q column there (omega (arith, lt, wide))))
      leads

  pub kept : tables.KeepsLayout (image_bytes p)
  kept = record {
    header = header_keeps p (fits p k) k.wheel k.sizes.small counts;
    slots = slots_keep p (fits p k) k.wheel k.sizes.small counts;
    places = places_keep p (fits p k) k.wheel k.sizes.small counts (place_range p k) (place_ascends p k) no_place;
    time_cuts = time_cuts_keep p (fits p k) k.time_cuts.some k.time_cuts.ascend;
    ratio_cuts = ratio_cuts_keep p (fits p k) k.ratio_cuts.some k.ratio_cuts.ascend;
    kinds = kinds_keep p (fits p k) no_place place_back k.sizes.some_states k.states.dead.0 k.states.dead.1 (phase_low p k) k.states.start (λ q least lt. kind_says (kind_of p q) (k.states.kinds q least lt));
    members = members;
    rows = rows;
  }

pub writable : (p : ImageParts) → KeepsRules p → AreSmall p × (72 + length (body p) < 2 ^ 32)
writable p k = (k.sizes.small, body_short p k.sizes.small)
