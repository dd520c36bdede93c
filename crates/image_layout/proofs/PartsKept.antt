-- Parts that keep the rules of the cuts and rows give bytes that keep them.
use Rattle.std.proofs.Common.{◌≡◌, ◌⊎◌, ℕ, ◌+◌, ◌-◌, ◌*◌, ◌<◌, ◌≤◌, List, [], ◌++◌, append_assoc, length-append, length, get_or, refl, sym, ap, ◌∙◌, arith}
use Rattle.image_layout.specs.declared.parts.ImageParts.{ImageParts}
use Rattle.image_layout.specs.Layout.{time_total, ratio_total, state_total, row_width, rows_end, image_end, padded_to}
use Rattle.image_layout.specs.Fields.{phase_at}
use Rattle.image_layout.specs.Parts.{image_bytes, kind_words}
use Rattle.std.specs.Prelude.{flat_map, replicate, IsTrue}
use Rattle.image_layout.specs.Letters.{letter_of, leads_to}
use Rattle.byteorder.specs.Endian.{little_bytes}
use Rattle.std.proofs.lemmas.List.{get_or-append-add, get_or_append_left, get_or-replicate, length-replicate, append-nil}
use Rattle.image_layout.specs.declared.kind.Kind.{Kind}
use Rattle.image_layout.specs.declared.kind.Kind.TheVariants.{Dead, At, Open}
use Rattle.image_layout.specs.Tables.{AreZero, KeepsTimeCuts, KeepsRatioCuts, KeepsRows}
use Rattle.image_layout.proofs.ReadBack.{Fit, time_total_is, ratio_total_is, time_cut_is, ratio_cut_is, state_total_is, kind_word_is, entry_is, before_rows, after_rows, rows_parted, long_rows, length_numbers}

module _ (p : ImageParts) (h : Fit p) where
  pub time_cuts_keep :
      ((k : ℕ) → k < length p.time_cuts.items → 1 ≤ get_or p.time_cuts.items k 0)
      → ((k : ℕ) → k + 1 < length p.time_cuts.items → get_or p.time_cuts.items k 0 < get_or p.time_cuts.items (k + 1) 0)
      → KeepsTimeCuts (image_bytes p)
  time_cuts_keep range ascend =
      let total = time_total_is p h in
      record {
        range = λ k lt. let there : k < length p.time_cuts.items = omega (arith, lt, total) in rw (time_cut_is p h k there) (range k there);
        ascend = λ k lt.
            let there : k + 1 < length p.time_cuts.items = omega (arith, lt, total) in
            rw (time_cut_is p h k (omega (arith, there)), time_cut_is p h (k + 1) there) (ascend k there);
      }

  pub ratio_cuts_keep :
      ((k : ℕ) → k < length p.ratio_cuts.items → (1 ≤ (get_or p.ratio_cuts.items k (0, 0)).0) × (1 ≤ (get_or p.ratio_cuts.items k (0, 0)).1))
      → ((k : ℕ) → k + 1 < length p.ratio_cuts.items → (get_or p.ratio_cuts.items k (0, 0)).0 * (get_or p.ratio_cuts.items (k + 1) (0, 0)).1 < (get_or p.ratio_cuts.items (k + 1) (0, 0)).0 * (get_or p.ratio_cuts.items k (0, 0)).1)
      → KeepsRatioCuts (image_bytes p)
  ratio_cuts_keep range ascend =
      let total = ratio_total_is p h in
      record {
        range = λ k lt. let there : k < length p.ratio_cuts.items = omega (arith, lt, total) in rw ((ratio_cut_is p h k there).0, (ratio_cut_is p h k there).1) (range k there);
        ascend = λ k lt.
            let there : k + 1 < length p.ratio_cuts.items = omega (arith, lt, total) in
            let here = ratio_cut_is p h k (omega (arith, there)) in
            let next = ratio_cut_is p h (k + 1) there in
            rw (here.0, here.1, next.0, next.1) (ascend k there);
      }

-- zeros behind other bytes
zeros_in : (bytes front rest : List ℕ) (n from to : ℕ) → bytes ≡ front ++ (replicate n 0 ++ rest) → length front ≡ from → to ≡ from + n → AreZero bytes from to
zeros_in bytes front rest n from to e long end at low high =
    let place : at ≡ length front + (at - from) = omega (arith, long, low) in
    let size : length (replicate n 0) ≡ n = length-replicate {A = ℕ} n 0 in
    let within : at - from < n = omega (arith, end, low, high) in
    ap (λ (ys : List ℕ). get_or ys at 0) e
    ∙ ap (λ (i : ℕ). get_or (front ++ (replicate n 0 ++ rest)) i 0) place
    ∙ get_or-append-add front (replicate n 0 ++ rest) (at - from) 0
    ∙ get_or_append_left (replicate n 0) rest 0 (at - from) (omega (arith, size, within))
    ∙ get_or-replicate n (at - from) 0 0 within

module _ (p : ImageParts) (h : Fit p) where
  -- an entry, by the list of rows
  abbrev pub entry_of : ℕ → ℕ → ℕ
  entry_of q column = get_or p.rows.items (q * row_width (image_bytes p) + column) 0

  phase_word : (phase : ℕ) (kind : Kind) → get_or (kind_words phase kind) 0 0 ≡ phase
  phase_word phase Dead = refl
  phase_word phase (At j) = refl
  phase_word phase (Open e f) = refl

  pub phase_is : (q : ℕ) → q < length p.phases.items → phase_at (image_bytes p) q ≡ get_or p.phases.items q 0
  phase_is q there = kind_word_is p h q 0 there (omega arith) ∙ phase_word (get_or p.phases.items q 0) (get_or p.kinds.items q Dead)

  rows_padding : AreZero (image_bytes p) (rows_end (image_bytes p)) (image_end (image_bytes p))
  rows_padding =
      let size : ℕ = 2 * length p.rows.items in
      let total : state_total (image_bytes p) * row_width (image_bytes p) ≡ length p.rows.items = rw (state_total_is p h, time_total_is p h, ratio_total_is p h) (sym h.entries) in
      let bytes : image_bytes p ≡ (before_rows p ++ flat_map (little_bytes 2) p.rows.items) ++ (replicate (padded_to size - size) 0 ++ []) =
      rows_parted p ∙ sym (append_assoc (before_rows p) (flat_map (little_bytes 2) p.rows.items) (after_rows p)) ∙ ap (λ (ys : List ℕ). (before_rows p ++ flat_map (little_bytes 2) p.rows.items) ++ ys) (sym (append-nil (after_rows p))) in
      let mine = length_numbers 2 p.rows.items in
      let front : length (before_rows p ++ flat_map (little_bytes 2) p.rows.items) ≡ rows_end (image_bytes p) = length-append (before_rows p) (flat_map (little_bytes 2) p.rows.items) ∙ omega (arith, mine, total, long_rows p h) in
      zeros_in (image_bytes p) (before_rows p ++ flat_map (little_bytes 2) p.rows.items) [] (padded_to size - size) (rows_end (image_bytes p)) (image_end (image_bytes p)) bytes front (omega (arith, total))

  pub rows_keep :
      1 ≤ length p.phases.items
      → ((column : ℕ) → column < row_width (image_bytes p) → entry_of 0 column ≡ 0)
      → ((q column : ℕ) → q < length p.phases.items → column < row_width (image_bytes p) → entry_of q column < length p.phases.items)
      → ((q column : ℕ) → q < length p.phases.items → column < row_width (image_bytes p) → (entry_of q column ≡ 0) ⊎ IsTrue (leads_to (letter_of (time_total (image_bytes p)) (ratio_total (image_bytes p)) column) (get_or p.phases.items q 0) (get_or p.phases.items (entry_of q column) 0)))
      → KeepsRows (image_bytes p)
  rows_keep some dead range leads =
      let total = state_total_is p h in
      record {
        dead = λ column lt. entry_is p h 0 column (omega (arith, some)) lt ∙ dead column lt;
        range = λ q column there lt. let q_there : q < length p.phases.items = omega (arith, there, total) in rw (entry_is p h q column q_there lt, total) (range q column q_there lt);
        leads = λ q column there lt.
            let q_there : q < length p.phases.items = omega (arith, there, total) in
            rw (entry_is p h q column q_there lt, phase_is q q_there, phase_is (entry_of q column) (range q column q_there lt)) (leads q column q_there lt);
        padding = rows_padding;
      }
