-- Parts that keep the rules of the header, the slots, the places, the kinds and the sets give bytes that keep them.
use Rattle.std.proofs.Common.{◌≡◌, ◌⊎◌, ℕ, ◌+◌, ◌-◌, ◌*◌, ◌/◌, ◌%◌, ◌<◌, ◌≤◌, ◌==◌, ◌||◌, IsTrue, List, ◌++◌, append_assoc, length-append, length, get_or, refl, sym, ap, subst, ◌∙◌, arith}
use Rattle.std.proofs.lemmas.Bool.Decides.{nat_tests}
use Rattle.std.proofs.lemmas.List.{get_or-append-add, get_or_append_left, get_or-replicate, length-replicate}
use Rattle.std.specs.Prelude.{flat_map, replicate}
use Rattle.byteorder.specs.Endian.{little_bytes}
use Rattle.wheel_types.specs.declared.channel.Channel.TheVariants.{Crank}
use Rattle.wheel_types.specs.declared.channel.Keep.{Keep}
use Rattle.wheel_types.specs.declared.channel.Keep.TheVariants.{Rising, Falling, Both}
use Rattle.wheel_types.specs.declared.place.Place.{Place}
use Rattle.wheel_types.specs.declared.parts.WheelParts.{WheelParts}
use Rattle.wheel_types.specs.Edges.{edge_count}
use Rattle.wheel_types.specs.Wheels.{IsWheel}
use Rattle.image_layout.specs.declared.parts.ImageParts.{ImageParts}
use Rattle.image_layout.specs.Layout.{word_at, slot_total, place_total, state_total, set_words, row_width, padded_to, places_begin, times_begin, rows_begin, image_end}
use Rattle.image_layout.specs.Fields.{slot_at, place_at, crank_total}
use Rattle.image_layout.specs.Keeps.{AreCounts}
use Rattle.image_layout.specs.Parts.{image_bytes, body, keep_code, place_words, AreSmall}
use Rattle.image_layout.specs.Tables.{AreZero, KeepsHeader, KeepsSlots, KeepsPlaces, IsBelow, IsPlace}
use Rattle.image_layout.proofs.ReadBack.{Fit, head, head_long, header_at, slot_total_is, place_total_is, time_total_is, ratio_total_is, state_total_is, parted, places_parted, rows_parted, before_places, before_rows, after_places, after_slots, after_rows, after_times, long_places, long_rows, length_numbers, length_each, places_numbers, place_is}
use Rattle.image_layout.proofs.WheelBack.{wheel_is}

-- ---- bits of the kept edges

code_range : (k : Keep) → (1 ≤ keep_code k) × (keep_code k < 4)
code_range Rising = (omega arith, omega arith)
code_range Falling = (omega arith, omega arith)
code_range Both = (omega arith, omega arith)

codes_small : (x y z : ℕ) → x < 4 → y < 4 → z < 4 → x + 4 * y + 16 * z < 64
codes_small x y z h k l = omega (arith, h, k, l)

code1 : (n x y z : ℕ) → n ≡ x + 4 * y + 16 * z → 1 ≤ x → x < 4 → 1 ≤ n / 1 % 4
code1 n x y z e s h = let q : n / 1 % 4 ≡ x = omega (arith, e, h) in omega (arith, q, s)

code2 : (n x y z : ℕ) → n ≡ x + 4 * y + 16 * z → x < 4 → 1 ≤ y → y < 4 → 1 ≤ n / 4 % 4
code2 n x y z e hx s h = let q : n / 4 % 4 ≡ y = omega (arith, e, hx, h) in omega (arith, q, s)

code3 : (n x y z : ℕ) → n ≡ x + 4 * y + 16 * z → x < 4 → y < 4 → 1 ≤ z → z < 4 → 1 ≤ n / 16 % 4
code3 n x y z e hx hy s h = let q : n / 16 % 4 ≡ z = omega (arith, e, hx, hy, h) in omega (arith, q, s)

two_degrees : (d n : ℕ) → n ≡ d → IsTrue ((d == 360) || (d == 720)) → (n ≡ 360) ⊎ (n ≡ 720)
two_degrees d n e h = grind (arith, nat_tests, e)

-- zeros behind other bytes
pub zeros_in : (bytes front rest : List ℕ) (n from to : ℕ) → bytes ≡ front ++ (replicate n 0 ++ rest) → length front ≡ from → to ≡ from + n → AreZero bytes from to
zeros_in bytes front rest n from to e long end at low high =
    let place : at ≡ length front + (at - from) = omega (arith, long, low) in
    let size : length (replicate n 0) ≡ n = length-replicate {A = ℕ} n 0 in
    let within : at - from < n = omega (arith, end, low, high) in
    ap (λ (ys : List ℕ). get_or ys at 0) e
    ∙ ap (λ (i : ℕ). get_or (front ++ (replicate n 0 ++ rest)) i 0) place
    ∙ get_or-append-add front (replicate n 0 ++ rest) (at - from) 0
    ∙ get_or_append_left (replicate n 0) rest 0 (at - from) (omega (arith, size, within))
    ∙ get_or-replicate n (at - from) 0 0 within

up_to : (m : ℕ) → m ≤ padded_to m
up_to m = omega arith

-- how many entries the parts have
pub record HasCounts (p : ImageParts) : Type 0 where
  pub some_places : 1 ≤ length p.places.items
  pub some_states : 2 ≤ length p.phases.items
  pub few_members : length p.members.items ≤ 8388608
  pub few_rows : length p.rows.items ≤ 8388608

module _ (p : ImageParts) (h : Fit p) (wheel : IsWheel p.wheel) (small : AreSmall p) (counts : HasCounts p) where
  total : state_total (image_bytes p) * row_width (image_bytes p) ≡ length p.rows.items
  total = rw (state_total_is p h, time_total_is p h, ratio_total_is p h) (sym h.entries)

  sets : state_total (image_bytes p) * set_words (image_bytes p) ≡ length p.members.items
  sets = rw (state_total_is p h, place_total_is p h) (sym h.sets)

  long : length (image_bytes p) ≡ image_end (image_bytes p)
  long =
      let mine = length_numbers 2 p.rows.items in
      let zeros : length (after_rows p) ≡ padded_to (2 * length p.rows.items) - 2 * length p.rows.items = length-replicate {A = ℕ} (padded_to (2 * length p.rows.items) - 2 * length p.rows.items) 0 in
      let parts : length (image_bytes p) ≡ length (before_rows p) + (length (flat_map (little_bytes 2) p.rows.items) + length (after_rows p)) =
      ap length (rows_parted p) ∙ (length-append (before_rows p) (flat_map (little_bytes 2) p.rows.items ++ after_rows p) ∙ ap (λ n. length (before_rows p) + n) (length-append (flat_map (little_bytes 2) p.rows.items) (after_rows p))) in
      let more = up_to (2 * length p.rows.items) in
      let end : rows_begin (image_bytes p) + padded_to (2 * length p.rows.items) ≡ image_end (image_bytes p) = ap (λ n. rows_begin (image_bytes p) + padded_to (2 * n)) (sym total) in
      let sum : length (image_bytes p) ≡ rows_begin (image_bytes p) + padded_to (2 * length p.rows.items) = omega (arith, parts, mine, zeros, more, long_rows p h) in
      sum ∙ end

  whole : length (image_bytes p) ≡ 72 + length (body p)
  whole = length-append (head p) (body p) ∙ ap (λ n. n + length (body p)) (head_long p)

  are_counts : AreCounts (image_bytes p)
  are_counts = record {
    slots = let e = slot_total_is p h in (omega (arith, e, wheel.slots.0), omega (arith, e, wheel.slots.1));
    places = let e = place_total_is p h in (omega (arith, e, counts.some_places), omega (arith, e, small.places));
    times = let e = time_total_is p h in omega (arith, e, small.times);
    ratios = let e = ratio_total_is p h in omega (arith, e, small.ratios);
    states = let e = state_total_is p h in (omega (arith, e, counts.some_states), omega (arith, e, small.states));
    members = subst (λ n. n ≤ 8388608) (sym sets) counts.few_members;
    rows = subst (λ n. n ≤ 8388608) (sym total) counts.few_rows;
  }

  kept_word : word_at (image_bytes p) 36 ≡ keep_code p.wheel.crank + 4 * keep_code p.wheel.cam1 + 16 * keep_code p.wheel.cam2
  kept_word = header_at p 9 (omega arith) h.header

  pub header_keeps : KeepsHeader (image_bytes p)
  header_keeps =
      let crank = code_range p.wheel.crank in
      let cam1 = code_range p.wheel.cam1 in
      let cam2 = code_range p.wheel.cam2 in
      let degrees : word_at (image_bytes p) 32 ≡ p.wheel.degrees = header_at p 8 (omega arith) h.header in
      let early1 : word_at (image_bytes p) 40 ≡ p.wheel.cam1_early = header_at p 10 (omega arith) h.header in
      let late1 : word_at (image_bytes p) 44 ≡ p.wheel.cam1_late = header_at p 11 (omega arith) h.header in
      let early2 : word_at (image_bytes p) 48 ≡ p.wheel.cam2_early = header_at p 12 (omega arith) h.header in
      let late2 : word_at (image_bytes p) 52 ≡ p.wheel.cam2_late = header_at p 13 (omega arith) h.header in
      let low : word_at (image_bytes p) 56 ≡ p.wheel.rpm_low = header_at p 14 (omega arith) h.header in
      let high : word_at (image_bytes p) 60 ≡ p.wheel.rpm_high = header_at p 15 (omega arith) h.header in
      let rn : word_at (image_bytes p) 64 ≡ p.wheel.rn = header_at p 16 (omega arith) h.header in
      let rd : word_at (image_bytes p) 68 ≡ p.wheel.rd = header_at p 17 (omega arith) h.header in
      let told : word_at (image_bytes p) 8 ≡ 72 + length (body p) = header_at p 2 (omega arith) h.header in
      record {
        front = omega (arith, whole);
        magic = header_at p 0 (omega arith) h.header;
        version = header_at p 1 (omega arith) h.header;
        whole = long;
        told = told ∙ (sym whole ∙ long);
        counts = are_counts;
        degrees = two_degrees p.wheel.degrees (word_at (image_bytes p) 32) degrees wheel.degrees;
        keep = subst (λ n. n < 64) (sym kept_word) (codes_small (keep_code p.wheel.crank) (keep_code p.wheel.cam1) (keep_code p.wheel.cam2) crank.1 cam1.1 cam2.1);
        crank = code1 (word_at (image_bytes p) 36) (keep_code p.wheel.crank) (keep_code p.wheel.cam1) (keep_code p.wheel.cam2) kept_word crank.0 crank.1;
        cam1 = code2 (word_at (image_bytes p) 36) (keep_code p.wheel.crank) (keep_code p.wheel.cam1) (keep_code p.wheel.cam2) kept_word crank.1 cam1.0 cam1.1;
        cam2 = code3 (word_at (image_bytes p) 36) (keep_code p.wheel.crank) (keep_code p.wheel.cam1) (keep_code p.wheel.cam2) kept_word crank.1 cam1.1 cam2.0 cam2.1;
        phasing1 = omega (arith, degrees, early1, late1, wheel.cam1);
        phasing2 = omega (arith, degrees, early2, late2, wheel.cam2);
        rpm = (omega (arith, low, wheel.rpm.0), omega (arith, low, high, wheel.rpm.1), omega (arith, high, wheel.rpm.2));
        ratio = (omega (arith, rd, wheel.ratio.0), omega (arith, rn, rd, wheel.ratio.1), omega (arith, rn, wheel.ratio.2));
      }

  cranks : crank_total (image_bytes p) ≡ edge_count p.wheel Crank
  cranks = ap (λ (w : WheelParts). edge_count w Crank) (wheel_is p h)

  slot_is : (k : ℕ) → k < length p.wheel.slots → slot_at (image_bytes p) k ≡ get_or p.wheel.slots k 0
  slot_is k lt =
      ap (λ (ys : List ℕ). get_or ys (72 + k) 0) (parted p)
      ∙ (ap (λ i. get_or (head p ++ (p.wheel.slots ++ after_slots p)) (i + k) 0) (sym (head_long p))
      ∙ (get_or-append-add (head p) (p.wheel.slots ++ after_slots p) k 0 ∙ get_or_append_left p.wheel.slots (after_slots p) 0 k lt))

  pub slots_keep : KeepsSlots (image_bytes p)
  slots_keep =
      let e = slot_total_is p h in
      let n : ℕ = length p.wheel.slots in
      let rest : List ℕ = flat_map (little_bytes 4) (places_numbers p) ++ after_places p in
      let front : length (head p ++ p.wheel.slots) ≡ 72 + slot_total (image_bytes p) = length-append (head p) p.wheel.slots ∙ omega (arith, head_long p, e) in
      let bytes : image_bytes p ≡ (head p ++ p.wheel.slots) ++ (replicate (padded_to n - n) 0 ++ rest) = parted p ∙ sym (append_assoc (head p) p.wheel.slots (after_slots p)) in
      let end : places_begin (image_bytes p) ≡ 72 + slot_total (image_bytes p) + (padded_to n - n) = let m = up_to n in let d : padded_to (slot_total (image_bytes p)) ≡ padded_to n = ap padded_to e in omega (arith, m, d, e) in
      record {
        values = λ k lt. let there : k < n = omega (arith, lt, e) in let v = wheel.values k 0 there in let s = slot_is k there in omega (arith, v, s);
        crank_edge = subst (λ m. 1 ≤ m) (sym cranks) wheel.crank_edge;
        padding = zeros_in (image_bytes p) (head p ++ p.wheel.slots) rest (padded_to n - n) (72 + slot_total (image_bytes p)) (places_begin (image_bytes p)) bytes front end;
      }

  pub places_keep :
      ((k : ℕ) (d : Place) → k < length p.places.items → IsPlace (edge_count p.wheel Crank) (get_or p.places.items k d))
      → ((k : ℕ) (d : Place) → k + 1 < length p.places.items → IsBelow (get_or p.places.items k d) (get_or p.places.items (k + 1) d))
      → (d : Place) → KeepsPlaces (image_bytes p)
  places_keep range ascend d =
      let e = place_total_is p h in
      let m : ℕ = 12 * length p.places.items in
      let at : (k : ℕ) → k < length p.places.items → place_at (image_bytes p) k ≡ get_or p.places.items k d = λ k lt. let r = range k d lt in place_is p h k d lt r.1 r.2 in
      let rest : List ℕ = flat_map (little_bytes 8) p.time_cuts.items ++ after_times p in
      let numbers : List ℕ = flat_map (little_bytes 4) (places_numbers p) in
      let each : length (places_numbers p) ≡ 3 * length p.places.items = length_each place_words 3 p.places.items (λ x. refl) in
      let size : length numbers ≡ m = length_numbers 4 (places_numbers p) ∙ omega (arith, each) in
      let front : length (before_places p ++ numbers) ≡ places_begin (image_bytes p) + 12 * place_total (image_bytes p) = length-append (before_places p) numbers ∙ omega (arith, size, long_places p h, e) in
      let bytes : image_bytes p ≡ (before_places p ++ numbers) ++ (replicate (padded_to m - m) 0 ++ rest) = places_parted p ∙ sym (append_assoc (before_places p) numbers (after_places p)) in
      let same : 12 * place_total (image_bytes p) ≡ m = omega (arith, e) in
      let end : times_begin (image_bytes p) ≡ places_begin (image_bytes p) + 12 * place_total (image_bytes p) + (padded_to m - m) = let o = up_to m in let q : padded_to (12 * place_total (image_bytes p)) ≡ padded_to m = ap padded_to same in omega (arith, o, q, same) in
      record {
        range = λ k lt. let there : k < length p.places.items = omega (arith, lt, e) in
            subst (IsPlace (crank_total (image_bytes p))) (sym (at k there)) (subst (λ n. IsPlace n (get_or p.places.items k d)) (sym cranks) (range k d there));
        ascend = λ k lt. let there : k + 1 < length p.places.items = omega (arith, lt, e) in
            subst (IsBelow (place_at (image_bytes p) k)) (sym (at (k + 1) there)) (subst (λ (q : Place). IsBelow q (get_or p.places.items (k + 1) d)) (sym (at k (omega (arith, there)))) (ascend k d there));
        padding = zeros_in (image_bytes p) (before_places p ++ numbers) rest (padded_to m - m) (places_begin (image_bytes p) + 12 * place_total (image_bytes p)) (times_begin (image_bytes p)) bytes front end;
      }
