-- The parts that an image's bytes hold are written as these bytes.
use Rattle.std.proofs.Common.{◌≡◌, inl, inr, ℕ, zero, suc, ◌+◌, ◌-◌, ◌*◌, ◌/◌, ◌%◌, ◌<◌, ◌≤◌, List, [], ◌∷◌, ◌++◌, length, take, drop, get_or, refl, sym, ap, subst, ◌∙◌, arith}
use Rattle.std.proofs.Math.ListN.{drop_of_length-le}
use Rattle.std.proofs.lemmas.Int.{of_z-to_z}
use Rattle.std.proofs.lemmas.List.{append-nil, length-drop, length-take-le, take-append-drop}
use Rattle.std.proofs.lemmas.List.Folds.{flat_map-map}
use Rattle.std.specs.Int.{cast_signed, cast_unsigned, w32}
use Rattle.std.specs.Prelude.{flat_map}
use Rattle.byteorder.specs.Endian.{little_bytes}
use Rattle.wheel_types.specs.Edges.{below}
use Rattle.image_layout.specs.declared.kind.Kind.{Kind}
use Rattle.image_layout.specs.declared.kind.Kind.TheVariants.{Dead}
use Rattle.image_layout.specs.declared.parts.ImageParts.{ImageParts}
use Rattle.image_layout.specs.Layout.{number_at, word_at, padded_to, slot_total, place_total, time_total, ratio_total, state_total, set_words, row_width, places_begin, times_begin, ratios_begin, kinds_begin, members_begin, rows_begin, rows_end, image_end}
use Rattle.image_layout.specs.Fields.{place_at, time_cut_at, kind_word_at, phase_at, kind_for, kind_at, row_number_at, keep_for, kept_at}
use Rattle.image_layout.specs.Parts.{words, zeros_after, keep_code, place_words, ratio_words, kind_words, state_words, body, header_words, image_bytes}
use Rattle.image_layout.specs.Tables.{AreZero, KeepsLayout}
use Rattle.image_layout.proofs.ReadBack.{words_of_each, body_is, places_numbers, ratios_numbers, states_numbers}
use Rattle.image_round.proofs.Bytes.{AreLow, number_bytes, number_low, zero_bytes, section, Told, told_bytes, behind}
use Rattle.image_round.proofs.PartsOf.{parts_of, table_at, member_number, ratio_cut_at}
use Rattle.image_round.proofs.ReadRules.{places_long, times_long, ratios_long, states_long, rows_long}

up_to : (m : ℕ) → m ≤ padded_to m
up_to m = omega arith

-- ---- the words of kinds and of kept edges

dead_words : (phase k e f : ℕ) → k ≡ 0 → e ≡ 0 → f ≡ 0 → kind_words phase (kind_for k e f) ≡ phase ∷ k ∷ e ∷ f ∷ []
dead_words phase k e f ek ee ef = rw (ek, ee, ef) refl

at_words : (phase k e f : ℕ) → k ≡ 1 → f ≡ 0 → kind_words phase (kind_for k e f) ≡ phase ∷ k ∷ e ∷ f ∷ []
at_words phase k e f ek ef = rw (ek, ef) refl

open_words : (phase k e f : ℕ) → k ≡ 2 → kind_words phase (kind_for k e f) ≡ phase ∷ k ∷ e ∷ f ∷ []
open_words phase k e f ek = rw ek refl

code_back : (n : ℕ) → 1 ≤ n → n < 4 → keep_code (keep_for n) ≡ n
code_back zero some few = absurd (omega (arith, some))
code_back (suc zero) some few = refl
code_back (suc (suc zero)) some few = refl
code_back (suc (suc (suc zero))) some few = refl
code_back (suc (suc (suc (suc n)))) some few = absurd (omega (arith, few))

digits : (n : ℕ) → n < 64 → n ≡ n / 1 % 4 + 4 * (n / 4 % 4) + 16 * (n / 16 % 4)
digits n few = omega (arith, few)

digit_low : (n : ℕ) → n % 4 < 4
digit_low n = omega arith

module _ (b : List ℕ) (low : AreLow b) (h : KeepsLayout b) where
  abbrev p : ImageParts
  p = parts_of b h.header.counts

  -- zeros up to a multiple of 8, and what stands behind them
  pad_behind : (from to m n : ℕ) (rest : List ℕ) → AreZero b from to → to ≤ length b → n ≡ m → to ≡ from + (padded_to m - m) → drop to b ≡ rest → drop from b ≡ zeros_after n ++ rest
  pad_behind from to m n rest zeros within same place e =
      subst (λ k. drop from b ≡ zeros_after k ++ rest) (sym same)
      (behind b from (padded_to m - m) to (zeros_after m) rest place (zero_bytes b from (padded_to m - m) (subst (AreZero b from) place zeros) (omega (arith, place, within))) e)

  -- ---- where the sections end

  rows_in : rows_begin b + 2 * (state_total b * row_width b) ≤ length b
  rows_in = let more = up_to (2 * (state_total b * row_width b)) in let whole = h.header.whole in omega (arith, more, whole)

  members_in : members_begin b + 8 * (state_total b * set_words b) ≤ length b
  members_in = omega (arith, rows_in)

  kinds_in : kinds_begin b + 16 * state_total b ≤ length b
  kinds_in = omega (arith, members_in)

  ratios_in : ratios_begin b + 8 * ratio_total b ≤ length b
  ratios_in = omega (arith, kinds_in)

  times_in : times_begin b + 8 * time_total b ≤ length b
  times_in = omega (arith, ratios_in)

  places_in : places_begin b + 12 * place_total b ≤ length b
  places_in = let more = up_to (12 * place_total b) in omega (arith, more, times_in)

  slots_in : 72 + slot_total b ≤ length b
  slots_in = let more = up_to (slot_total b) in omega (arith, more, places_in)

  slots_long : length p.wheel.slots ≡ slot_total b
  slots_long = let size = length-drop 72 b in length-take-le (slot_total b) (drop 72 b) (omega (arith, size, slots_in))

  -- ---- the sections

  place_told : (at : ℕ) → (number_at 4 b (at + 4) ≡ cast_unsigned w32 (cast_signed w32 (number_at 4 b (at + 4)))) × (number_at 4 b (at + 4 + 4) ≡ cast_unsigned w32 (cast_signed w32 (number_at 4 b (at + 8))))
  place_told at =
      let one = number_low 4 b (at + 4) low in
      let two = number_low 4 b (at + 8) low in
      let place : at + 4 + 4 ≡ at + 8 = omega arith in
      (sym (of_z-to_z w32 (number_at 4 b (at + 4)) (omega (arith, one))), ap (λ i. number_at 4 b i) place ∙ sym (of_z-to_z w32 (number_at 4 b (at + 8)) (omega (arith, two))))

  places_here : take (12 * place_total b) (drop (places_begin b) b) ≡ flat_map (little_bytes 4) (places_numbers p)
  places_here =
      section 12 (places_begin b) (place_total b) b (λ k. words (place_words (place_at b k))) (λ k lt.
      let told = place_told (places_begin b + 12 * k) in
      told_bytes b (places_begin b + 12 * k) (place_words (place_at b k)) low (omega (arith, lt, places_in)) (refl, (told.0, (told.1, tt))))
      ∙ (sym (flat_map-map (λ x. words (place_words x)) (place_at b) (below (place_total b))) ∙ words_of_each place_words p.places.items)

  times_here : take (8 * time_total b) (drop (times_begin b) b) ≡ flat_map (little_bytes 8) p.time_cuts.items
  times_here =
      section 8 (times_begin b) (time_total b) b (λ k. little_bytes 8 (time_cut_at b k)) (λ k lt. number_bytes 8 b (times_begin b + 8 * k) (omega (arith, lt, times_in)) low)
      ∙ sym (flat_map-map (little_bytes 8) (time_cut_at b) (below (time_total b)))

  ratios_here : take (8 * ratio_total b) (drop (ratios_begin b) b) ≡ flat_map (little_bytes 4) (ratios_numbers p)
  ratios_here =
      section 8 (ratios_begin b) (ratio_total b) b (λ k. words (ratio_words (ratio_cut_at b k))) (λ k lt.
      told_bytes b (ratios_begin b + 8 * k) (ratio_words (ratio_cut_at b k)) low (omega (arith, lt, ratios_in)) (refl, (refl, tt)))
      ∙ (sym (flat_map-map (λ x. words (ratio_words x)) (ratio_cut_at b) (below (ratio_total b))) ∙ words_of_each ratio_words p.ratio_cuts.items)

  -- the four words of a state
  abbrev four_words : ℕ → List ℕ
  four_words q = phase_at b q ∷ kind_word_at b q 1 ∷ kind_word_at b q 2 ∷ kind_word_at b q 3 ∷ []

  kind_words_are : (q : ℕ) → q < state_total b → kind_words (phase_at b q) (kind_at b q) ≡ four_words q
  kind_words_are zero lt =
      let d = h.kinds.dead in
      dead_words (phase_at b 0) (kind_word_at b 0 1) (kind_word_at b 0 2) (kind_word_at b 0 3) d.1 d.2 d.3
  kind_words_are (suc q) lt = elim (h.kinds.kinds (suc q) (omega arith) lt) [
    | inl at ↦ at_words (phase_at b (suc q)) (kind_word_at b (suc q) 1) (kind_word_at b (suc q) 2) (kind_word_at b (suc q) 3) at.0 at.2
    | inr apart ↦ open_words (phase_at b (suc q)) (kind_word_at b (suc q) 1) (kind_word_at b (suc q) 2) (kind_word_at b (suc q) 3) apart.0
  ]

  state_words_are : (q : ℕ) → q < state_total b → state_words p q ≡ four_words q
  state_words_are q lt =
      ap (λ n. kind_words n (get_or p.kinds.items q Dead)) (table_at (phase_at b) (state_total b) q 0 lt)
      ∙ (ap (λ (x : Kind). kind_words (phase_at b q) x) (table_at (kind_at b) (state_total b) q Dead lt) ∙ kind_words_are q lt)

  four_told : (q : ℕ) → Told b (kinds_begin b + 16 * q) (four_words q)
  four_told q =
      let at : ℕ = kinds_begin b + 16 * q in
      let zeroth : at ≡ at + 0 = omega arith in
      let second : at + 4 + 4 ≡ at + 8 = omega arith in
      let third : at + 4 + 4 + 4 ≡ at + 12 = omega arith in
      (ap (λ i. number_at 4 b i) zeroth, (refl, (ap (λ i. number_at 4 b i) second, (ap (λ i. number_at 4 b i) third, tt))))

  kinds_here : take (16 * state_total b) (drop (kinds_begin b) b) ≡ flat_map (little_bytes 4) (states_numbers p)
  kinds_here =
      section 16 (kinds_begin b) (state_total b) b (λ q. words (state_words p q)) (λ q lt.
      told_bytes b (kinds_begin b + 16 * q) (four_words q) low (omega (arith, lt, kinds_in)) (four_told q) ∙ ap words (sym (state_words_are q lt)))
      ∙ (ap (λ n. flat_map (λ q. words (state_words p q)) (below n)) (sym (states_long b low h)) ∙ words_of_each (state_words p) (below (length p.phases.items)))

  members_here : take (8 * (state_total b * set_words b)) (drop (members_begin b) b) ≡ flat_map (little_bytes 8) p.members.items
  members_here =
      section 8 (members_begin b) (state_total b * set_words b) b (λ i. little_bytes 8 (member_number b i)) (λ i lt. number_bytes 8 b (members_begin b + 8 * i) (omega (arith, lt, members_in)) low)
      ∙ sym (flat_map-map (little_bytes 8) (member_number b) (below (state_total b * set_words b)))

  rows_here : take (2 * (state_total b * row_width b)) (drop (rows_begin b) b) ≡ flat_map (little_bytes 2) p.rows.items
  rows_here =
      section 2 (rows_begin b) (state_total b * row_width b) b (λ e. little_bytes 2 (row_number_at b e)) (λ e lt. number_bytes 2 b (rows_begin b + 2 * e) (omega (arith, lt, rows_in)) low)
      ∙ sym (flat_map-map (little_bytes 2) (row_number_at b) (below (state_total b * row_width b)))

  -- ---- from the last section to the first

  from_rows_end : drop (rows_end b) b ≡ zeros_after (2 * length p.rows.items)
  from_rows_end =
      let whole = h.header.whole in
      let more = up_to (2 * (state_total b * row_width b)) in
      pad_behind (rows_end b) (image_end b) (2 * (state_total b * row_width b)) (2 * length p.rows.items) [] h.rows.padding (omega (arith, whole)) (ap (λ n. 2 * n) (rows_long b low h)) (omega (arith, more)) (drop_of_length-le b (omega (arith, whole)))
      ∙ append-nil (zeros_after (2 * length p.rows.items))

  abbrev from_rows : List ℕ
  from_rows = flat_map (little_bytes 2) p.rows.items ++ zeros_after (2 * length p.rows.items)

  abbrev from_members : List ℕ
  from_members = flat_map (little_bytes 8) p.members.items ++ from_rows

  abbrev from_kinds : List ℕ
  from_kinds = flat_map (little_bytes 4) (states_numbers p) ++ from_members

  abbrev from_ratios : List ℕ
  from_ratios = flat_map (little_bytes 4) (ratios_numbers p) ++ from_kinds

  abbrev from_times : List ℕ
  from_times = flat_map (little_bytes 8) p.time_cuts.items ++ from_ratios

  abbrev from_places : List ℕ
  from_places = flat_map (little_bytes 4) (places_numbers p) ++ (zeros_after (12 * length p.places.items) ++ from_times)

  times_on : drop (times_begin b) b ≡ from_times
  times_on =
      behind b (times_begin b) (8 * time_total b) (ratios_begin b) (flat_map (little_bytes 8) p.time_cuts.items) from_ratios refl times_here
      (behind b (ratios_begin b) (8 * ratio_total b) (kinds_begin b) (flat_map (little_bytes 4) (ratios_numbers p)) from_kinds refl ratios_here
      (behind b (kinds_begin b) (16 * state_total b) (members_begin b) (flat_map (little_bytes 4) (states_numbers p)) from_members refl kinds_here
      (behind b (members_begin b) (8 * (state_total b * set_words b)) (rows_begin b) (flat_map (little_bytes 8) p.members.items) from_rows refl members_here
      (behind b (rows_begin b) (2 * (state_total b * row_width b)) (rows_end b) (flat_map (little_bytes 2) p.rows.items) (zeros_after (2 * length p.rows.items)) refl rows_here from_rows_end))))

  places_on : drop (places_begin b) b ≡ from_places
  places_on =
      let more = up_to (12 * place_total b) in
      behind b (places_begin b) (12 * place_total b) (places_begin b + 12 * place_total b) (flat_map (little_bytes 4) (places_numbers p)) (zeros_after (12 * length p.places.items) ++ from_times) refl places_here
      (pad_behind (places_begin b + 12 * place_total b) (times_begin b) (12 * place_total b) (12 * length p.places.items) from_times h.places.padding (omega (arith, times_in)) (ap (λ n. 12 * n) (places_long b low h)) (omega (arith, more)) times_on)

  slots_on : drop 72 b ≡ body p
  slots_on =
      let more = up_to (slot_total b) in
      behind b 72 (slot_total b) (72 + slot_total b) p.wheel.slots (zeros_after (length p.wheel.slots) ++ from_places) refl refl
      (pad_behind (72 + slot_total b) (places_begin b) (slot_total b) (length p.wheel.slots) from_places h.slots.padding (omega (arith, places_in)) slots_long (omega (arith, more)) places_on)
      ∙ sym (body_is p)

  -- ---- the header

  kept_told : word_at b 36 ≡ keep_code p.wheel.crank + 4 * keep_code p.wheel.cam1 + 16 * keep_code p.wheel.cam2
  kept_told =
      let crank = code_back (kept_at b 1) h.header.crank (digit_low (word_at b 36 / 1)) in
      let cam1 = code_back (kept_at b 4) h.header.cam1 (digit_low (word_at b 36 / 4)) in
      let cam2 = code_back (kept_at b 16) h.header.cam2 (digit_low (word_at b 36 / 16)) in
      digits (word_at b 36) h.header.keep ∙ sym (rw (crank, cam1, cam2) refl)

  length_told : word_at b 8 ≡ 72 + length (body p)
  length_told =
      let size : length (body p) ≡ length b - 72 = ap length (sym slots_on) ∙ length-drop 72 b in
      let front = h.header.front in
      let whole = h.header.whole in
      h.header.told ∙ omega (arith, size, front, whole)

  header_told : Told b 0 (header_words p (length (body p)))
  header_told = (h.header.magic, (h.header.version, (length_told, (sym slots_long, (sym (places_long b low h), (sym (times_long b low h), (sym (ratios_long b low h), (sym (states_long b low h), (refl, (kept_told, (refl, (refl, (refl, (refl, (refl, (refl, (refl, (refl, tt))))))))))))))))))

  header_here : take 72 b ≡ words (header_words p (length (body p)))
  header_here = told_bytes b 0 (header_words p (length (body p))) low h.header.front header_told

  pub rewritten : image_bytes p ≡ b
  rewritten =
      ap (λ (ys : List ℕ). ys ++ body p) (sym header_here)
      ∙ (ap (λ (ys : List ℕ). take 72 b ++ ys) (sym slots_on) ∙ take-append-drop 72 b)
