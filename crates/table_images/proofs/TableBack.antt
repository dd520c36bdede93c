-- The table that the bytes of parts hold is that of the parts.
use Rattle.std.proofs.Common.{◌≡◌, ℕ, zero, suc, ◌+◌, ◌*◌, ◌<◌, ◌≤◌, List, [], ◌∷◌, ◌++◌, length, Some, slice_get, get_or, refl, sym, ap, ◌∙◌, arith}
use Rattle.std.proofs.Math.Nat.{mul-le-mul_left}
use Rattle.std.proofs.lemmas.List.{ext_get_or, get_or-map, length-map, get_or_append_left, get_or-append-add}
use Rattle.std.proofs.lemmas.Option.{slice_get_within, slice_get-get_or}
use Rattle.std.specs.Prelude.{map, flat_map}
use Rattle.wheel_types.specs.declared.place.Place.{Place}
use Rattle.wheel_types.specs.Edges.{below}
use Rattle.image_layout.specs.declared.kind.Kind.{Kind}
use Rattle.image_layout.specs.declared.kind.Kind.TheVariants.{Dead, At, Open}
use Rattle.image_layout.specs.declared.parts.ImageParts.{ImageParts}
use Rattle.image_layout.specs.Layout.{number_at, place_total, time_total, ratio_total, state_total, set_words, words_for, row_width, members_begin}
use Rattle.image_layout.specs.Fields.{place_at, time_cut_at, ratio_top_at, ratio_bottom_at, phase_at, kind_for, kind_at, member_at, row_number_at}
use Rattle.image_layout.specs.Parts.{image_bytes, kind_words}
use Rattle.image_layout.proofs.Below.{length-below, below_at}
use Rattle.image_layout.proofs.ReadBack.{Fit, place_total_is, time_total_is, ratio_total_is, state_total_is, time_cut_is, ratio_cut_is, kind_word_is, member_is, row_number_is}
use Rattle.image_layout.proofs.PartsKept.{phase_is}
use Rattle.position_nfa.specs.declared.pair.Pair.{Pair}
use Rattle.table_images.specs.Kinds.{says_of}
use Rattle.table_images.specs.Images.{set_at, state_at, table_of}
use Rattle.table_images.proofs.TableRows.{map_at}

-- a list by its elements
listed : {X : Type 0} (f : ℕ → X) (xs : List X) (n : ℕ) (d : X) → n ≡ length xs → ((k : ℕ) → k < length xs → f k ≡ get_or xs k d) → map f (below n) ≡ xs
listed f xs n d e each =
    let size : length (map f (below n)) ≡ n = length-map (below n) f ∙ length-below n in
    ext_get_or d (map f (below n)) xs (size ∙ e) (λ k lt.
    let within : k < n = omega (arith, lt, size) in
    let long : length (below n) ≡ n = length-below n in
    get_or-map f (below n) k 0 d (omega (arith, within, long)) ∙ (ap f (below_at n k 0 within) ∙ each k (omega (arith, within, e))))

-- number w of piece q
pub flat_piece : (m : ℕ) (states : List Pair) → ((q : ℕ) (x : Pair) → slice_get states q ≡ Some x → length x.set ≡ m) → (q w : ℕ) (x : Pair) → slice_get states q ≡ Some x → w < m → get_or (flat_map {A = ℕ} (λ (p : Pair). p.set) states) (q * m + w) 0 ≡ get_or x.set w 0
flat_piece m [] each q w x h lt = absurd (cc)
flat_piece m (y ∷ ys) each zero w x h lt =
    let e : y ≡ x = cc in
    let size : length y.set ≡ m = each 0 y refl in
    let place : zero * m + w ≡ w = omega arith in
    ap (λ i. get_or (y.set ++ flat_map {A = ℕ} (λ (p : Pair). p.set) ys) i 0) place ∙ get_or_append_left y.set (flat_map {A = ℕ} (λ (p : Pair). p.set) ys) 0 w (omega (arith, size, lt)) ∙ ap (λ (p : Pair). get_or p.set w 0) e
flat_piece m (y ∷ ys) each (suc q) w x h lt =
    let size : length y.set ≡ m = each 0 y refl in
    let place : suc q * m + w ≡ length y.set + (q * m + w) = omega (arith, size) in
    ap (λ i. get_or (y.set ++ flat_map {A = ℕ} (λ (p : Pair). p.set) ys) i 0) place
    ∙ (get_or-append-add y.set (flat_map {A = ℕ} (λ (p : Pair). p.set) ys) (q * m + w) 0
    ∙ flat_piece m ys (λ r z g. each (suc r) z g) q w x h lt)

within_sets : (q n w states total : ℕ) → q < states → w < n → total ≡ states * n → q * n + w < total
within_sets q n w states total lt small e = let more : n * (q + 1) ≤ n * states = mul-le-mul_left n (omega (arith, lt)) in omega (arith, more, small, e)

same_pair : (p q : Pair) → p.phase ≡ q.phase → p.set ≡ q.set → p ≡ q
same_pair p q e f = λ i. record { phase = e i; set = f i }

-- the kind that a state's words say is the one that was written
said_kind : (phase : ℕ) (k : Kind) → kind_for (get_or (kind_words phase k) 1 0) (get_or (kind_words phase k) 2 0) (get_or (kind_words phase k) 3 0) ≡ k
said_kind phase Dead = refl
said_kind phase (At j) = refl
said_kind phase (Open e f) = refl

module _ (p : ImageParts) (h : Fit p) (d : Place) (places : (k : ℕ) → k < length p.places.items → place_at (image_bytes p) k ≡ get_or p.places.items k d) where
  pub places_back : (table_of (image_bytes p)).places ≡ p.places.items
  places_back = listed (place_at (image_bytes p)) p.places.items (place_total (image_bytes p)) d (place_total_is p h) places

  pub times_back : (table_of (image_bytes p)).time_cuts ≡ p.time_cuts.items
  times_back = listed (time_cut_at (image_bytes p)) p.time_cuts.items (time_total (image_bytes p)) 0 (time_total_is p h) (λ k lt. time_cut_is p h k lt)

  pub ratios_back : (table_of (image_bytes p)).ratio_cuts ≡ p.ratio_cuts.items
  ratios_back = listed (λ k. (ratio_top_at (image_bytes p) k, ratio_bottom_at (image_bytes p) k)) p.ratio_cuts.items (ratio_total (image_bytes p)) (0, 0) (ratio_total_is p h)
      (λ k lt. let r = ratio_cut_is p h k lt in λ i. (r.0 i, r.1 i))

  total : state_total (image_bytes p) * row_width (image_bytes p) ≡ length p.rows.items
  total = rw (state_total_is p h, time_total_is p h, ratio_total_is p h) (sym h.entries)

  pub rows_back : (table_of (image_bytes p)).rows ≡ p.rows.items
  rows_back = listed (row_number_at (image_bytes p)) p.rows.items (state_total (image_bytes p) * row_width (image_bytes p)) 0 total (λ k lt. row_number_is p h k lt)

  kind_back : (q : ℕ) → q < length p.phases.items → kind_at (image_bytes p) q ≡ get_or p.kinds.items q Dead
  kind_back q lt =
      let one = kind_word_is p h q 1 lt (omega arith) in
      let two = kind_word_is p h q 2 lt (omega arith) in
      let three = kind_word_is p h q 3 lt (omega arith) in
      rw (one, two, three) (said_kind (get_or p.phases.items q 0) (get_or p.kinds.items q Dead))

  pub says_back : length p.kinds.items ≡ length p.phases.items → (table_of (image_bytes p)).says ≡ map says_of p.kinds.items
  says_back long =
      let size : length (map says_of p.kinds.items) ≡ length p.kinds.items = length-map p.kinds.items says_of in
      listed (λ q. says_of (kind_at (image_bytes p) q)) (map says_of p.kinds.items) (state_total (image_bytes p)) (says_of Dead) (state_total_is p h ∙ (sym long ∙ sym size))
      (λ q lt.
      let there : q < length p.kinds.items = omega (arith, lt, size) in
      ap says_of (kind_back q (omega (arith, there, long))) ∙ sym (get_or-map says_of p.kinds.items q Dead (says_of Dead) there))

  module _ (states : List Pair) (phases : p.phases.items ≡ map (λ (s : Pair). s.phase) states) (members : p.members.items ≡ flat_map (λ (s : Pair). s.set) states)
      (each : (q : ℕ) (x : Pair) → slice_get states q ≡ Some x → length x.set ≡ words_for (length p.places.items)) where
    count : length p.phases.items ≡ length states
    count = ap (λ (l : List ℕ). length l) phases ∙ length-map states (λ (s : Pair). s.phase)

    state_back : (q : ℕ) (x : Pair) → slice_get states q ≡ Some x → state_at (image_bytes p) q ≡ x
    state_back q x at =
        let lt : q < length p.phases.items = omega (arith, count, slice_get_within states q x at) in
        let n : ℕ = words_for (length p.places.items) in
        let words : set_words (image_bytes p) ≡ n = ap words_for (place_total_is p h) in
        let size : length x.set ≡ n = each q x at in
        let phase : phase_at (image_bytes p) q ≡ x.phase = phase_is p h q lt ∙ (ap (λ (l : List ℕ). get_or l q 0) phases ∙ map_at (λ (s : Pair). s.phase) states q x 0 at) in
        let set : set_at (image_bytes p) q ≡ x.set = listed (member_at (image_bytes p) q) x.set (set_words (image_bytes p)) 0 (words ∙ sym size) (λ w small.
        let there : w < n = omega (arith, small, size) in
        let within : q * n + w < length p.members.items = within_sets q n w (length p.phases.items) (length p.members.items) lt there h.sets in
        ap (λ m. number_at 8 (image_bytes p) (members_begin (image_bytes p) + 8 * (q * m + w))) words
        ∙ (member_is p h (q * n + w) within ∙ (ap (λ (l : List ℕ). get_or l (q * n + w) 0) members ∙ flat_piece n states each q w x at there))) in
        same_pair (state_at (image_bytes p) q) x phase set

    pub states_back : (s : Pair) → (table_of (image_bytes p)).states ≡ states
    states_back s = listed (state_at (image_bytes p)) states (state_total (image_bytes p)) s (state_total_is p h ∙ count) (λ q lt. state_back q (get_or states q s) (slice_get-get_or states q s lt))
