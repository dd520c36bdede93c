-- The parts that an image's bytes hold keep the rules.
use Rattle.std.proofs.Common.{◌≡◌, ◌⊎◌, inl, inr, ℕ, ◌+◌, ◌-◌, ◌*◌, ◌^◌, ◌<◌, ◌≤◌, List, length, get_or, refl, sym, ap, subst, ◌∙◌, arith}
use Rattle.std.specs.Prelude.{IsTrue, IsNone}
use Rattle.wheel_types.specs.declared.place.Place.{Place}
use Rattle.wheel_types.specs.Wheels.{IsWheel}
use Rattle.image_layout.specs.declared.kind.Kind.TheVariants.{Dead}
use Rattle.image_layout.specs.declared.parts.ImageParts.{ImageParts}
use Rattle.image_layout.specs.Layout.{place_total, time_total, ratio_total, state_total, set_words, words_for, row_width, times_begin, ratios_begin, members_begin}
use Rattle.image_layout.specs.Letters.{letter_of, leads_to}
use Rattle.image_layout.specs.Fields.{place_at, time_cut_at, kind_word_at, phase_at, kind_for, kind_at, member_at, row_number_at, entry_at, crank_total}
use Rattle.image_layout.specs.Parts.{AreSmall}
use Rattle.image_layout.specs.Rules.{IsImage}
use Rattle.image_layout.specs.Tables as tables
use Rattle.image_layout.specs.Tables.{KeepsLayout, IsPlace, IsBelow}
use Rattle.image_layout.proofs.RowNumbers.{row_below}
use Rattle.image_format.proofs.Tables.{layout_from}
use Rattle.image_format.proofs.Wheels.{is_wheel}
use Rattle.image_round.specs.Parts.{KeepsRules, KeepsSizes, KeepsPlaces, KeepsTimeCuts, KeepsRatioCuts, KeepsStates, KeepsMembers, KeepsRows, Says, IsBelowAsFraction, states_of, words_of, width_of, place_of, time_cut_of, ratio_cut_of, phase_of, kind_of, entry_of}
use Rattle.image_round.proofs.Bytes.{AreLow, number_low, number_zero}
use Rattle.image_round.proofs.Fitting.{no_place}
use Rattle.image_round.proofs.PartsOf.{parts_of, table_long, table_at, member_number, ratio_cut_at}

same_leads : (column e0 e1 t0 t1 r0 r1 f0 f1 g0 g1 : ℕ) → e1 ≡ e0 → t1 ≡ t0 → r1 ≡ r0 → f1 ≡ f0 → g1 ≡ g0
    → (e0 ≡ 0) ⊎ IsTrue (leads_to (letter_of t0 r0 column) f0 g0) → (e1 ≡ 0) ⊎ IsTrue (leads_to (letter_of t1 r1 column) f1 g1)
same_leads column e0 e1 t0 t1 r0 r1 f0 f1 g0 g1 ee et er ef eg h = rw (ee, et, er, ef, eg) h

module _ (b : List ℕ) (low : AreLow b) (h : KeepsLayout b) where
  abbrev p : ImageParts
  p = parts_of b h.header.counts

  is_image : IsImage b
  is_image = subst IsNone (sym (layout_from b h)) refl

  wheel : IsWheel p.wheel
  wheel = is_wheel b is_image

  pub places_long : length p.places.items ≡ place_total b
  places_long = table_long (place_at b) (place_total b)

  pub times_long : length p.time_cuts.items ≡ time_total b
  times_long = table_long (time_cut_at b) (time_total b)

  pub ratios_long : length p.ratio_cuts.items ≡ ratio_total b
  ratios_long = table_long (ratio_cut_at b) (ratio_total b)

  pub states_long : states_of p ≡ state_total b
  states_long = table_long (phase_at b) (state_total b)

  kinds_long : length p.kinds.items ≡ state_total b
  kinds_long = table_long (kind_at b) (state_total b)

  members_long : length p.members.items ≡ state_total b * set_words b
  members_long = table_long (member_number b) (state_total b * set_words b)

  pub rows_long : length p.rows.items ≡ state_total b * row_width b
  rows_long = table_long (row_number_at b) (state_total b * row_width b)

  wide : width_of p ≡ row_width b
  wide = omega (arith, times_long, ratios_long)

  small : AreSmall p
  small = record {
    slots = wheel.slots.1;
    places = let most = h.header.counts.places.1 in omega (arith, places_long, most);
    times = let most = h.header.counts.times in omega (arith, times_long, most);
    ratios = let most = h.header.counts.ratios in omega (arith, ratios_long, most);
    states = let most = h.header.counts.states.1 in omega (arith, states_long, most);
    kinds = kinds_long ∙ sym states_long;
    members = subst (λ n. n ≤ 8388608) (sym members_long) h.header.counts.members;
    rows = subst (λ n. n ≤ 8388608) (sym rows_long) h.header.counts.rows;
  }

  sizes : KeepsSizes p
  sizes = record {
    small = small;
    some_places = let some = h.header.counts.places.0 in omega (arith, places_long, some);
    some_states = let some = h.header.counts.states.0 in omega (arith, states_long, some);
    sets = members_long ∙ (ap (λ n. n * set_words b) (sym states_long) ∙ ap (λ n. states_of p * words_for n) (sym places_long));
    entries = rows_long ∙ (ap (λ n. n * row_width b) (sym states_long) ∙ ap (λ n. states_of p * n) (sym wide));
  }

  place_is : (k : ℕ) → k < place_total b → place_of p k ≡ place_at b k
  place_is k lt = table_at (place_at b) (place_total b) k no_place lt

  places : KeepsPlaces p
  places = record {
    range = λ k lt. let there : k < place_total b = omega (arith, lt, places_long) in subst (IsPlace (crank_total b)) (sym (place_is k there)) (h.places.range k there);
    ascend = λ k lt.
        let there : k + 1 < place_total b = omega (arith, lt, places_long) in
        subst (IsBelow (place_of p k)) (sym (place_is (k + 1) there)) (subst (λ (x : Place). IsBelow x (place_at b (k + 1))) (sym (place_is k (omega (arith, there)))) (h.places.ascend k there));
  }

  time_is : (k : ℕ) → k < time_total b → time_cut_of p k ≡ time_cut_at b k
  time_is k lt = table_at (time_cut_at b) (time_total b) k 0 lt

  time_cuts : KeepsTimeCuts p
  time_cuts = record {
    some = λ k lt. let there : k < time_total b = omega (arith, lt, times_long) in let e = time_is k there in let some = h.time_cuts.range k there in omega (arith, e, some);
    fit = λ k lt. let e = time_is k (omega (arith, lt, times_long)) in let fit = number_low 8 b (times_begin b + 8 * k) low in omega (arith, e, fit);
    ascend = λ k lt.
        let there : k + 1 < time_total b = omega (arith, lt, times_long) in
        let e = time_is k (omega (arith, there)) in
        let f = time_is (k + 1) there in
        let up = h.time_cuts.ascend k there in
        omega (arith, e, f, up);
  }

  ratio_is : (k : ℕ) → k < ratio_total b → ratio_cut_of p k ≡ ratio_cut_at b k
  ratio_is k lt = table_at (ratio_cut_at b) (ratio_total b) k (0, 0) lt

  ratio_cuts : KeepsRatioCuts p
  ratio_cuts = record {
    some = λ k lt. let there : k < ratio_total b = omega (arith, lt, ratios_long) in subst (λ (x : ℕ × ℕ). (1 ≤ x.0) × (1 ≤ x.1)) (sym (ratio_is k there)) (h.ratio_cuts.range k there);
    fit = λ k lt.
        let top = number_low 4 b (ratios_begin b + 8 * k) low in
        let bottom = number_low 4 b (ratios_begin b + 8 * k + 4) low in
        subst (λ (x : ℕ × ℕ). (x.0 < 2 ^ 32) × (x.1 < 2 ^ 32)) (sym (ratio_is k (omega (arith, lt, ratios_long)))) (omega (arith, top), omega (arith, bottom));
    ascend = λ k lt.
        let there : k + 1 < ratio_total b = omega (arith, lt, ratios_long) in
        subst (IsBelowAsFraction (ratio_cut_of p k)) (sym (ratio_is (k + 1) there))
        (subst (λ (x : ℕ × ℕ). IsBelowAsFraction x (ratio_cut_at b (k + 1))) (sym (ratio_is k (omega (arith, there)))) (h.ratio_cuts.ascend k there));
  }

  phase_is : (q : ℕ) → q < state_total b → phase_of p q ≡ phase_at b q
  phase_is q lt = table_at (phase_at b) (state_total b) q 0 lt

  kind_is : (q : ℕ) → q < state_total b → kind_of p q ≡ kind_at b q
  kind_is q lt = table_at (kind_at b) (state_total b) q Dead lt

  -- the kind that words say
  kind_says : (q : ℕ) → tables.IsAt b q ⊎ tables.IsOpen b q → Says p (kind_at b q)
  kind_says q (inl at) = subst (Says p) (sym (ap (λ n. kind_for n (kind_word_at b q 2) (kind_word_at b q 3)) at.0)) at.1
  kind_says q (inr apart) =
      let f : kind_word_at b q 3 < place_total b = apart.2 in
      let e : kind_word_at b q 2 < place_total b = let below = apart.1 in omega (arith, below, f) in
      subst (Says p) (sym (ap (λ n. kind_for n (kind_word_at b q 2) (kind_word_at b q 3)) apart.0))
      (apart.1, omega (arith, f, places_long), λ same. apart.3 (ap (λ (x : Place). x.j) (sym (place_is (kind_word_at b q 2) e)) ∙ (same ∙ ap (λ (x : Place). x.j) (place_is (kind_word_at b q 3) f))))

  states : KeepsStates p
  states =
      let two = h.header.counts.states.0 in
      let zero_there : 0 < state_total b = omega (arith, two) in
      record {
        dead = (phase_is 0 zero_there ∙ h.kinds.dead.0, kind_is 0 zero_there ∙ ap (λ n. kind_for n (kind_word_at b 0 2) (kind_word_at b 0 3)) h.kinds.dead.1);
        start = phase_is 1 (omega (arith, two)) ∙ h.kinds.start;
        phases = λ q least lt. let there : q < state_total b = omega (arith, lt, states_long) in let e = phase_is q there in let most = h.kinds.phases q least there in omega (arith, e, most);
        kinds = λ q least lt. let there : q < state_total b = omega (arith, lt, states_long) in subst (Says p) (sym (kind_is q there)) (kind_says q (h.kinds.kinds q least there));
      }

  member_is : (q w : ℕ) → q < state_total b → w < set_words b → get_or p.members.items (q * set_words b + w) 0 ≡ member_at b q w
  member_is q w lt small = table_at (member_number b) (state_total b * set_words b) (q * set_words b + w) 0 (row_below q w (set_words b) (set_words b) (state_total b) refl lt small)

  members : KeepsMembers p
  members = record {
    fit = λ k lt. let e = table_at (member_number b) (state_total b * set_words b) k 0 (omega (arith, lt, members_long)) in let fit = number_low 8 b (members_begin b + 8 * k) low in omega (arith, e, fit);
    places = λ q lt.
        let there : q < state_total b = omega (arith, lt, states_long) in
        let some = h.header.counts.places.0 in
        let last : set_words b - 1 < set_words b = omega (arith, some) in
        subst (λ n. get_or p.members.items (q * words_for n + (words_for n - 1)) 0 < 2 ^ (n - 64 * (words_for n - 1))) (sym places_long)
        (subst (λ x. x < 2 ^ (place_total b - 64 * (set_words b - 1))) (sym (member_is q (set_words b - 1) there last)) (h.members.places q there));
    dead = λ w lt.
        let two = h.header.counts.states.0 in
        let words : words_of p ≡ set_words b = ap words_for places_long in
        let there : w < set_words b = omega (arith, lt, words) in
        ap (λ n. get_or p.members.items (0 * n + w) 0) words
        ∙ (member_is 0 w (omega (arith, two)) there
        ∙ number_zero 8 b (members_begin b + 8 * (0 * set_words b + w)) (members_begin b) (members_begin b + 8 * set_words b) h.members.dead (omega arith) (omega (arith, there)));
  }

  entry_is : (q column : ℕ) → q < state_total b → column < row_width b → entry_of p q column ≡ entry_at b q column
  entry_is q column lt within =
      ap (λ m. get_or p.rows.items (q * m + column) 0) wide
      ∙ table_at (row_number_at b) (state_total b * row_width b) (q * row_width b + column) 0 (row_below q column (row_width b) (row_width b) (state_total b) refl lt within)

  rows : KeepsRows p
  rows = record {
    dead = λ column lt. let two = h.header.counts.states.0 in let within : column < row_width b = omega (arith, lt, wide) in entry_is 0 column (omega (arith, two)) within ∙ h.rows.dead column within;
    range = λ q column lt small.
        let there : q < state_total b = omega (arith, lt, states_long) in
        let within : column < row_width b = omega (arith, small, wide) in
        let e = entry_is q column there within in
        let state = h.rows.range q column there within in
        omega (arith, e, state, states_long);
    leads = λ q column lt small.
        let there : q < state_total b = omega (arith, lt, states_long) in
        let within : column < row_width b = omega (arith, small, wide) in
        let e = entry_is q column there within in
        same_leads column (entry_at b q column) (entry_of p q column) (time_total b) (length p.time_cuts.items) (ratio_total b) (length p.ratio_cuts.items) (phase_at b q) (phase_of p q) (phase_at b (entry_at b q column)) (phase_of p (entry_of p q column))
        e times_long ratios_long (phase_is q there) (ap (phase_of p) e ∙ phase_is (entry_at b q column) (h.rows.range q column there within)) (h.rows.leads q column there within);
  }

  pub kept : KeepsRules p
  kept = record {
    wheel = wheel;
    sizes = sizes;
    places = places;
    time_cuts = time_cuts;
    ratio_cuts = ratio_cuts;
    states = states;
    members = members;
    rows = rows;
  }
