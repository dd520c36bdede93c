-- What is read of the bytes that an image's parts give.
use Rattle.std.proofs.Common.{◌≡◌, ℕ, ◌+◌, ◌-◌, ◌*◌, ◌^◌, ◌<◌, ◌≤◌, List, [], ◌∷◌, ◌++◌, length, take, get_or, refl, sym, ap, ◌∙◌, arith, append_assoc, length-append}
use Rattle.std.specs.Prelude.{ℤ, unsigned_abs, flat_map}
use Rattle.std.specs.Int.{cast_signed, cast_unsigned, w32}
use Rattle.std.proofs.lemmas.Int.{to_z-of_z, fits_signed_from_abs}
use Rattle.wheel_types.specs.declared.place.Place.{Place}
use Rattle.std.proofs.lemmas.Grind.{flat_map-append}
use Rattle.std.proofs.lemmas.List.{length-replicate, length-take-le}
use Rattle.std.proofs.lemmas.List.Concat.{get_or-flat_map}
use Rattle.std.proofs.Math.Nat.{mul-le-mul_left}
use Rattle.image_layout.proofs.RowNumbers.{row_below}
use Rattle.byteorder.specs.Endian.{little_bytes}
use Rattle.byteorder.specs.Numbers.{length-bytes_low_first}
use Rattle.wheel_types.specs.Edges.{below}
use Rattle.image_layout.specs.declared.parts.ImageParts.{ImageParts}
use Rattle.image_layout.specs.Layout.{number_at, word_at, padded_to, slot_total, place_total, time_total, ratio_total, state_total, words_for, width_for, set_words, places_begin, times_begin, ratios_begin, kinds_begin, members_begin, rows_begin, row_width}
use Rattle.image_layout.specs.Fields.{time_cut_at, row_number_at, entry_at, ratio_top_at, ratio_bottom_at, kind_word_at, place_at}
use Rattle.image_layout.specs.declared.kind.Kind.{Kind}
use Rattle.image_layout.specs.declared.kind.Kind.TheVariants.{Dead, At, Open}
use Rattle.image_layout.specs.Parts.{word, words, place_words, ratio_words, kind_words, state_words, zeros_after, body, header_words, image_bytes}
use Rattle.image_layout.proofs.Written.{number_behind}
use Rattle.image_layout.proofs.Below.{length-below, below_at}

-- words are numbers of four bytes
pub word_is : (n : ℕ) → word n ≡ little_bytes 4 n
unfolding word
word_is n = refl

pub words_are : (ns : List ℕ) → words ns ≡ flat_map (little_bytes 4) ns
words_are [] = refl
words_are (n ∷ ns) = rw (word_is n, words_are ns) refl

pub words_of_each : {X : Type 0} (f : X → List ℕ) (xs : List X) → flat_map (λ x. words (f x)) xs ≡ flat_map (little_bytes 4) (flat_map f xs)
words_of_each f [] = refl
words_of_each f (x ∷ xs) = rw (words_are (f x), words_of_each f xs) (sym (flat_map-append (little_bytes 4) (f x) (flat_map f xs)))

pub length_numbers : (n : ℕ) (xs : List ℕ) → length (flat_map (little_bytes n) xs) ≡ n * length xs
length_numbers n [] = omega arith
length_numbers n (x ∷ xs) =
    let one : length (little_bytes n x) ≡ n = length-bytes_low_first 0 n x in
    let rest = length_numbers n xs in
    length-append (little_bytes n x) (flat_map (little_bytes n) xs) ∙ omega (arith, one, rest)

-- as many numbers for each
pub length_each : {X : Type 0} (f : X → List ℕ) (m : ℕ) (xs : List X) → ((x : X) → length (f x) ≡ m) → length (flat_map f xs) ≡ m * length xs
length_each f m [] h = omega arith
length_each f m (x ∷ xs) h =
    let one = h x in
    let rest = length_each f m xs h in
    length-append (f x) (flat_map f xs) ∙ omega (arith, one, rest)

-- the sections, grouped from the right
module _ (a b c d e f g h i j : List ℕ) where
  chain : a ++ b ++ c ++ d ++ e ++ f ++ g ++ h ++ i ++ j ≡ a ++ (b ++ (c ++ (d ++ (e ++ (f ++ (g ++ (h ++ (i ++ j))))))))
  chain = simp append_assoc refl

-- a number of a section behind others
pub section_at : (n : ℕ) (front xs rest bytes : List ℕ) (at i : ℕ) → bytes ≡ front ++ (flat_map (little_bytes n) xs ++ rest) → length front ≡ at → i < length xs → ((k : ℕ) → k < length xs → get_or xs k 0 < 256 ^ n) → number_at n bytes (at + n * i) ≡ get_or xs i 0
section_at n front xs rest bytes at i e long there fit = rw e (number_behind n front xs rest at i long there fit)

abbrev pub places_numbers : ImageParts → List ℕ
places_numbers p = flat_map place_words p.places.items

abbrev pub ratios_numbers : ImageParts → List ℕ
ratios_numbers p = flat_map ratio_words p.ratio_cuts.items

abbrev pub states_numbers : ImageParts → List ℕ
states_numbers p = flat_map (state_words p) (below (length p.phases.items))

-- sections 1 to 7, as numbers
pub body_is : (p : ImageParts) → body p ≡
    p.wheel.slots ++ (zeros_after (length p.wheel.slots)
    ++ (flat_map (little_bytes 4) (places_numbers p) ++ (zeros_after (12 * length p.places.items)
    ++ (flat_map (little_bytes 8) p.time_cuts.items
    ++ (flat_map (little_bytes 4) (ratios_numbers p)
    ++ (flat_map (little_bytes 4) (states_numbers p)
    ++ (flat_map (little_bytes 8) p.members.items
    ++ (flat_map (little_bytes 2) p.rows.items ++ zeros_after (2 * length p.rows.items)))))))))
body_is p =
    rw (words_of_each place_words p.places.items, words_of_each ratio_words p.ratio_cuts.items, words_of_each (state_words p) (below (length p.phases.items)))
    (chain p.wheel.slots (zeros_after (length p.wheel.slots)) (flat_map (little_bytes 4) (places_numbers p)) (zeros_after (12 * length p.places.items))
    (flat_map (little_bytes 8) p.time_cuts.items) (flat_map (little_bytes 4) (ratios_numbers p)) (flat_map (little_bytes 4) (states_numbers p))
    (flat_map (little_bytes 8) p.members.items) (flat_map (little_bytes 2) p.rows.items) (zeros_after (2 * length p.rows.items)))

-- word i of the header
pub header_at : (p : ImageParts) (i : ℕ) → i < 18 → ((k : ℕ) → k < 18 → get_or (header_words p (length (body p))) k 0 < 256 ^ 4) → word_at (image_bytes p) (4 * i) ≡ get_or (header_words p (length (body p))) i 0
header_at p i there fit =
    let e : image_bytes p ≡ [] ++ (flat_map (little_bytes 4) (header_words p (length (body p))) ++ body p) = rw (words_are (header_words p (length (body p)))) refl in
    let place : 0 + 4 * i ≡ 4 * i = omega arith in
    rw place at (section_at 4 [] (header_words p (length (body p))) (body p) (image_bytes p) 0 i e refl there fit)

-- what stands before a section, and after it
module _ (h a b c d e f g i j k : List ℕ) where
  at_places : h ++ (a ++ (b ++ (c ++ (d ++ (e ++ (f ++ (g ++ (i ++ (j ++ k))))))))) ≡ (h ++ a ++ b) ++ (c ++ (d ++ (e ++ (f ++ (g ++ (i ++ (j ++ k)))))))
  at_places = simp append_assoc refl

  at_times : h ++ (a ++ (b ++ (c ++ (d ++ (e ++ (f ++ (g ++ (i ++ (j ++ k))))))))) ≡ (h ++ a ++ b ++ c ++ d) ++ (e ++ (f ++ (g ++ (i ++ (j ++ k)))))
  at_times = simp append_assoc refl

  at_ratios : h ++ (a ++ (b ++ (c ++ (d ++ (e ++ (f ++ (g ++ (i ++ (j ++ k))))))))) ≡ (h ++ a ++ b ++ c ++ d ++ e) ++ (f ++ (g ++ (i ++ (j ++ k))))
  at_ratios = simp append_assoc refl

  at_kinds : h ++ (a ++ (b ++ (c ++ (d ++ (e ++ (f ++ (g ++ (i ++ (j ++ k))))))))) ≡ (h ++ a ++ b ++ c ++ d ++ e ++ f) ++ (g ++ (i ++ (j ++ k)))
  at_kinds = simp append_assoc refl

  at_members : h ++ (a ++ (b ++ (c ++ (d ++ (e ++ (f ++ (g ++ (i ++ (j ++ k))))))))) ≡ (h ++ a ++ b ++ c ++ d ++ e ++ f ++ g) ++ (i ++ (j ++ k))
  at_members = simp append_assoc refl

  at_rows : h ++ (a ++ (b ++ (c ++ (d ++ (e ++ (f ++ (g ++ (i ++ (j ++ k))))))))) ≡ (h ++ a ++ b ++ c ++ d ++ e ++ f ++ g ++ i) ++ (j ++ k)
  at_rows = simp append_assoc refl

-- how long each is
length_places : (p : ImageParts) → length (flat_map (little_bytes 4) (places_numbers p)) ≡ 12 * length p.places.items
length_places p =
    let numbers = length_each place_words 3 p.places.items (λ x. refl) in
    length_numbers 4 (places_numbers p) ∙ omega (arith, numbers)

length_padding : (n : ℕ) → n + length (zeros_after n) ≡ padded_to n
length_padding n =
    let zeros = length-replicate {A = ℕ} (padded_to n - n) 0 in
    omega (arith, zeros)

-- the bytes up to the time cuts
up_to_times : (p : ImageParts) (h : List ℕ) → length h ≡ 72 → length (h ++ p.wheel.slots ++ zeros_after (length p.wheel.slots) ++ flat_map (little_bytes 4) (places_numbers p) ++ zeros_after (12 * length p.places.items)) ≡ 72 + padded_to (length p.wheel.slots) + padded_to (12 * length p.places.items)
up_to_times p h head =
    let slots = length_padding (length p.wheel.slots) in
    let places = length_padding (12 * length p.places.items) in
    let numbers = length_places p in
    rw (length-append, length-append, length-append, length-append, numbers, head) (omega (arith, slots, places))

-- the numbers of the header and of the sections fit their words
pub record Fit (p : ImageParts) : Type 0 where
  pub header : (k : ℕ) → k < 18 → get_or (header_words p (length (body p))) k 0 < 256 ^ 4
  pub times : (k : ℕ) → k < length p.time_cuts.items → get_or p.time_cuts.items k 0 < 256 ^ 8
  pub places : (k : ℕ) → k < length (places_numbers p) → get_or (places_numbers p) k 0 < 256 ^ 4
  pub ratios : (k : ℕ) → k < length (ratios_numbers p) → get_or (ratios_numbers p) k 0 < 256 ^ 4
  pub states : (k : ℕ) → k < length (states_numbers p) → get_or (states_numbers p) k 0 < 256 ^ 4
  pub members : (k : ℕ) → k < length p.members.items → get_or p.members.items k 0 < 256 ^ 8
  pub rows : (k : ℕ) → k < length p.rows.items → get_or p.rows.items k 0 < 256 ^ 2
  -- as many members and entries as the header says
  pub sets : length p.members.items ≡ length p.phases.items * words_for (length p.places.items)
  pub entries : length p.rows.items ≡ length p.phases.items * width_for (length p.time_cuts.items) (length p.ratio_cuts.items)

abbrev pub head : ImageParts → List ℕ
head p = words (header_words p (length (body p)))

pub head_long : (p : ImageParts) → length (head p) ≡ 72
head_long p = ap length (words_are (header_words p (length (body p)))) ∙ length_numbers 4 (header_words p (length (body p)))

-- the counts
pub slot_total_is : (p : ImageParts) → Fit p → slot_total (image_bytes p) ≡ length p.wheel.slots
slot_total_is p h = header_at p 3 (omega arith) h.header

pub place_total_is : (p : ImageParts) → Fit p → place_total (image_bytes p) ≡ length p.places.items
place_total_is p h = header_at p 4 (omega arith) h.header

pub time_total_is : (p : ImageParts) → Fit p → time_total (image_bytes p) ≡ length p.time_cuts.items
time_total_is p h = header_at p 5 (omega arith) h.header

pub ratio_total_is : (p : ImageParts) → Fit p → ratio_total (image_bytes p) ≡ length p.ratio_cuts.items
ratio_total_is p h = header_at p 6 (omega arith) h.header

pub state_total_is : (p : ImageParts) → Fit p → state_total (image_bytes p) ≡ length p.phases.items
state_total_is p h = header_at p 7 (omega arith) h.header

length_ratios : (p : ImageParts) → length (flat_map (little_bytes 4) (ratios_numbers p)) ≡ 8 * length p.ratio_cuts.items
length_ratios p =
    let numbers = length_each ratio_words 2 p.ratio_cuts.items (λ x. refl) in
    length_numbers 4 (ratios_numbers p) ∙ omega (arith, numbers)

four : (phase : ℕ) (kind : Kind) → length (kind_words phase kind) ≡ 4
four phase Dead = refl
four phase (At j) = refl
four phase (Open e f) = refl

length_states : (p : ImageParts) → length (flat_map (little_bytes 4) (states_numbers p)) ≡ 16 * length p.phases.items
length_states p =
    let numbers = length_each (state_words p) 4 (below (length p.phases.items)) (λ q. four (get_or p.phases.items q 0) (get_or p.kinds.items q Dead)) in
    let states = length-below (length p.phases.items) in
    length_numbers 4 (states_numbers p) ∙ omega (arith, numbers, states)

-- what stands before each section
abbrev pub before_places : ImageParts → List ℕ
before_places p = head p ++ p.wheel.slots ++ zeros_after (length p.wheel.slots)

abbrev pub before_times : ImageParts → List ℕ
before_times p = before_places p ++ flat_map (little_bytes 4) (places_numbers p) ++ zeros_after (12 * length p.places.items)

abbrev pub before_ratios : ImageParts → List ℕ
before_ratios p = before_times p ++ flat_map (little_bytes 8) p.time_cuts.items

abbrev pub before_states : ImageParts → List ℕ
before_states p = before_ratios p ++ flat_map (little_bytes 4) (ratios_numbers p)

abbrev pub before_members : ImageParts → List ℕ
before_members p = before_states p ++ flat_map (little_bytes 4) (states_numbers p)

abbrev pub before_rows : ImageParts → List ℕ
before_rows p = before_members p ++ flat_map (little_bytes 8) p.members.items

-- and what after it
abbrev pub after_rows : ImageParts → List ℕ
after_rows p = zeros_after (2 * length p.rows.items)

abbrev pub after_members : ImageParts → List ℕ
after_members p = flat_map (little_bytes 2) p.rows.items ++ after_rows p

abbrev pub after_states : ImageParts → List ℕ
after_states p = flat_map (little_bytes 8) p.members.items ++ after_members p

abbrev pub after_ratios : ImageParts → List ℕ
after_ratios p = flat_map (little_bytes 4) (states_numbers p) ++ after_states p

abbrev pub after_times : ImageParts → List ℕ
after_times p = flat_map (little_bytes 4) (ratios_numbers p) ++ after_ratios p

abbrev pub after_places : ImageParts → List ℕ
after_places p = zeros_after (12 * length p.places.items) ++ (flat_map (little_bytes 8) p.time_cuts.items ++ after_times p)

abbrev pub after_slots : ImageParts → List ℕ
after_slots p = zeros_after (length p.wheel.slots) ++ (flat_map (little_bytes 4) (places_numbers p) ++ after_places p)

module _ (p : ImageParts) where
  pub parted : image_bytes p ≡ head p ++ (p.wheel.slots ++ (zeros_after (length p.wheel.slots) ++ (flat_map (little_bytes 4) (places_numbers p) ++ after_places p)))
  parted = ap (λ (ys : List ℕ). head p ++ ys) (body_is p)

  pub places_parted : image_bytes p ≡ before_places p ++ (flat_map (little_bytes 4) (places_numbers p) ++ after_places p)
  places_parted = parted ∙ at_places (head p) p.wheel.slots (zeros_after (length p.wheel.slots)) (flat_map (little_bytes 4) (places_numbers p)) (zeros_after (12 * length p.places.items)) (flat_map (little_bytes 8) p.time_cuts.items) (flat_map (little_bytes 4) (ratios_numbers p)) (flat_map (little_bytes 4) (states_numbers p)) (flat_map (little_bytes 8) p.members.items) (flat_map (little_bytes 2) p.rows.items) (after_rows p)

  pub times_parted : image_bytes p ≡ before_times p ++ (flat_map (little_bytes 8) p.time_cuts.items ++ after_times p)
  times_parted = parted ∙ at_times (head p) p.wheel.slots (zeros_after (length p.wheel.slots)) (flat_map (little_bytes 4) (places_numbers p)) (zeros_after (12 * length p.places.items)) (flat_map (little_bytes 8) p.time_cuts.items) (flat_map (little_bytes 4) (ratios_numbers p)) (flat_map (little_bytes 4) (states_numbers p)) (flat_map (little_bytes 8) p.members.items) (flat_map (little_bytes 2) p.rows.items) (after_rows p)

  pub ratios_parted : image_bytes p ≡ before_ratios p ++ (flat_map (little_bytes 4) (ratios_numbers p) ++ after_ratios p)
  ratios_parted = parted ∙ at_ratios (head p) p.wheel.slots (zeros_after (length p.wheel.slots)) (flat_map (little_bytes 4) (places_numbers p)) (zeros_after (12 * length p.places.items)) (flat_map (little_bytes 8) p.time_cuts.items) (flat_map (little_bytes 4) (ratios_numbers p)) (flat_map (little_bytes 4) (states_numbers p)) (flat_map (little_bytes 8) p.members.items) (flat_map (little_bytes 2) p.rows.items) (after_rows p)

  pub states_parted : image_bytes p ≡ before_states p ++ (flat_map (little_bytes 4) (states_numbers p) ++ after_states p)
  states_parted = parted ∙ at_kinds (head p) p.wheel.slots (zeros_after (length p.wheel.slots)) (flat_map (little_bytes 4) (places_numbers p)) (zeros_after (12 * length p.places.items)) (flat_map (little_bytes 8) p.time_cuts.items) (flat_map (little_bytes 4) (ratios_numbers p)) (flat_map (little_bytes 4) (states_numbers p)) (flat_map (little_bytes 8) p.members.items) (flat_map (little_bytes 2) p.rows.items) (after_rows p)

  pub members_parted : image_bytes p ≡ before_members p ++ (flat_map (little_bytes 8) p.members.items ++ after_members p)
  members_parted = parted ∙ at_members (head p) p.wheel.slots (zeros_after (length p.wheel.slots)) (flat_map (little_bytes 4) (places_numbers p)) (zeros_after (12 * length p.places.items)) (flat_map (little_bytes 8) p.time_cuts.items) (flat_map (little_bytes 4) (ratios_numbers p)) (flat_map (little_bytes 4) (states_numbers p)) (flat_map (little_bytes 8) p.members.items) (flat_map (little_bytes 2) p.rows.items) (after_rows p)

  pub rows_parted : image_bytes p ≡ before_rows p ++ (flat_map (little_bytes 2) p.rows.items ++ after_rows p)
  rows_parted = parted ∙ at_rows (head p) p.wheel.slots (zeros_after (length p.wheel.slots)) (flat_map (little_bytes 4) (places_numbers p)) (zeros_after (12 * length p.places.items)) (flat_map (little_bytes 8) p.time_cuts.items) (flat_map (little_bytes 4) (ratios_numbers p)) (flat_map (little_bytes 4) (states_numbers p)) (flat_map (little_bytes 8) p.members.items) (flat_map (little_bytes 2) p.rows.items) (after_rows p)

module _ (p : ImageParts) (h : Fit p) where
  pub long_places : length (before_places p) ≡ places_begin (image_bytes p)
  long_places =
      let slots = length_padding (length p.wheel.slots) in
      rw (slot_total_is p h, length-append, length-append, head_long p) (omega (arith, slots))

  pub long_times : length (before_times p) ≡ times_begin (image_bytes p)
  long_times =
      let before = up_to_times p (head p) (head_long p) in
      rw (slot_total_is p h, place_total_is p h) before

  pub long_ratios : length (before_ratios p) ≡ ratios_begin (image_bytes p)
  long_ratios =
      let count = time_total_is p h in
      let mine = length_numbers 8 p.time_cuts.items in
      length-append (before_times p) (flat_map (little_bytes 8) p.time_cuts.items) ∙ omega (arith, count, mine, long_times)

  pub long_states : length (before_states p) ≡ kinds_begin (image_bytes p)
  long_states =
      let count = ratio_total_is p h in
      let mine = length_ratios p in
      length-append (before_ratios p) (flat_map (little_bytes 4) (ratios_numbers p)) ∙ omega (arith, count, mine, long_ratios)

  pub long_members : length (before_members p) ≡ members_begin (image_bytes p)
  long_members =
      let count = state_total_is p h in
      let mine = length_states p in
      length-append (before_states p) (flat_map (little_bytes 4) (states_numbers p)) ∙ omega (arith, count, mine, long_states)

  sets_are : state_total (image_bytes p) * set_words (image_bytes p) ≡ length p.members.items
  sets_are = rw (state_total_is p h, place_total_is p h) (sym h.sets)

  pub long_rows : length (before_rows p) ≡ rows_begin (image_bytes p)
  long_rows =
      let mine = length_numbers 8 p.members.items in
      length-append (before_members p) (flat_map (little_bytes 8) p.members.items) ∙ omega (arith, sets_are, mine, long_members)

  -- number i of each section
  pub place_number_is : (i : ℕ) → i < length (places_numbers p) → number_at 4 (image_bytes p) (places_begin (image_bytes p) + 4 * i) ≡ get_or (places_numbers p) i 0
  place_number_is i there = section_at 4 (before_places p) (places_numbers p) (after_places p) (image_bytes p) (places_begin (image_bytes p)) i (places_parted p) long_places there h.places

  pub time_cut_is : (k : ℕ) → k < length p.time_cuts.items → time_cut_at (image_bytes p) k ≡ get_or p.time_cuts.items k 0
  time_cut_is k there = section_at 8 (before_times p) p.time_cuts.items (after_times p) (image_bytes p) (times_begin (image_bytes p)) k (times_parted p) long_times there h.times

  pub ratio_number_is : (i : ℕ) → i < length (ratios_numbers p) → number_at 4 (image_bytes p) (ratios_begin (image_bytes p) + 4 * i) ≡ get_or (ratios_numbers p) i 0
  ratio_number_is i there = section_at 4 (before_ratios p) (ratios_numbers p) (after_ratios p) (image_bytes p) (ratios_begin (image_bytes p)) i (ratios_parted p) long_ratios there h.ratios

  pub state_number_is : (i : ℕ) → i < length (states_numbers p) → number_at 4 (image_bytes p) (kinds_begin (image_bytes p) + 4 * i) ≡ get_or (states_numbers p) i 0
  state_number_is i there = section_at 4 (before_states p) (states_numbers p) (after_states p) (image_bytes p) (kinds_begin (image_bytes p)) i (states_parted p) long_states there h.states

  pub member_is : (i : ℕ) → i < length p.members.items → number_at 8 (image_bytes p) (members_begin (image_bytes p) + 8 * i) ≡ get_or p.members.items i 0
  member_is i there = section_at 8 (before_members p) p.members.items (after_members p) (image_bytes p) (members_begin (image_bytes p)) i (members_parted p) long_members there h.members

  pub row_number_is : (e : ℕ) → e < length p.rows.items → row_number_at (image_bytes p) e ≡ get_or p.rows.items e 0
  row_number_is e there = section_at 2 (before_rows p) p.rows.items (after_rows p) (image_bytes p) (rows_begin (image_bytes p)) e (rows_parted p) long_rows there h.rows

-- number j of piece k, where each piece has m numbers
flat_at : {X : Type 0} (f : X → List ℕ) (m : ℕ) (xs : List X) (k j : ℕ) (e : X) → ((x : X) → length (f x) ≡ m) → k < length xs → j < m → get_or (flat_map f xs) (m * k + j) 0 ≡ get_or (f (get_or xs k e)) j 0
flat_at f m xs k j e size there within =
    let here : length (f (get_or xs k e)) ≡ m = size (get_or xs k e) in
    let before : length (flat_map f (take k xs)) ≡ m * k = length_each f m (take k xs) size ∙ ap (λ (n : ℕ). m * n) (length-take-le k xs (omega arith)) in
    rw before at (get_or-flat_map f xs k j e 0 there (omega (arith, here, within)))

piece_within : (m k j n : ℕ) → k < n → j < m → m * k + j < m * n
piece_within m k j n lt within = let h : m * (k + 1) ≤ m * n = mul-le-mul_left m (omega arith) in omega (arith, h)

module _ (p : ImageParts) (h : Fit p) where
  pub ratio_cut_is : (k : ℕ) → k < length p.ratio_cuts.items → (ratio_top_at (image_bytes p) k ≡ (get_or p.ratio_cuts.items k (0, 0)).0) × (ratio_bottom_at (image_bytes p) k ≡ (get_or p.ratio_cuts.items k (0, 0)).1)
  ratio_cut_is k there =
      let b = image_bytes p in
      let size : length (ratios_numbers p) ≡ 2 * length p.ratio_cuts.items = length_each ratio_words 2 p.ratio_cuts.items (λ x. refl) in
      let top = ratio_number_is p h (2 * k + 0) (omega (arith, size)) in
      let bottom = ratio_number_is p h (2 * k + 1) (omega (arith, size)) in
      let at0 : ratios_begin b + 4 * (2 * k + 0) ≡ ratios_begin b + 8 * k = omega arith in
      let at1 : ratios_begin b + 4 * (2 * k + 1) ≡ ratios_begin b + 8 * k + 4 = omega arith in (
        rw at0 at top ∙ flat_at ratio_words 2 p.ratio_cuts.items k 0 (0, 0) (λ x. refl) there (omega arith),
        rw at1 at bottom ∙ flat_at ratio_words 2 p.ratio_cuts.items k 1 (0, 0) (λ x. refl) there (omega arith),
      )

  pub entry_is : (q column : ℕ) → q < length p.phases.items → column < row_width (image_bytes p) → entry_at (image_bytes p) q column ≡ get_or p.rows.items (q * row_width (image_bytes p) + column) 0
  entry_is q column there within =
      let b = image_bytes p in
      let states = state_total_is p h in
      let total : length p.rows.items ≡ length p.phases.items * row_width b = rw (time_total_is p h, ratio_total_is p h) h.entries in
      let below = row_below q column (row_width b) (row_width b) (length p.phases.items) refl there within in
      row_number_is p h (q * row_width b + column) (omega (arith, total, below))

-- a state's words
pub kind_word_is : (p : ImageParts) → Fit p → (q w : ℕ) → q < length p.phases.items → w < 4 → kind_word_at (image_bytes p) q w ≡ get_or (state_words p q) w 0
kind_word_is p h q w there within =
    let b = image_bytes p in
    let each : (x : ℕ) → length (state_words p x) ≡ 4 = λ x. four (get_or p.phases.items x 0) (get_or p.kinds.items x Dead) in
    let states = length-below (length p.phases.items) in
    let size : length (states_numbers p) ≡ 4 * length (below (length p.phases.items)) = length_each (state_words p) 4 (below (length p.phases.items)) each in
    let number = state_number_is p h (4 * q + w) (omega (arith, size, states)) in
    let place : kinds_begin b + 4 * (4 * q + w) ≡ kinds_begin b + 16 * q + 4 * w = omega arith in
    let piece = flat_at (state_words p) 4 (below (length p.phases.items)) q w 0 each (omega (arith, states)) within in
    rw place at number ∙ piece ∙ ap (λ (x : ℕ). get_or (state_words p x) w 0) (below_at (length p.phases.items) q 0 there)

same_place : (a b : Place) → a.j ≡ b.j → a.n1 ≡ b.n1 → a.n2 ≡ b.n2 → a ≡ b
same_place a b e f g = grind (arith, e, f, g)

back : (z : ℤ) → unsigned_abs z < 1048576 → cast_signed w32 (cast_unsigned w32 z) ≡ z
back z small = to_z-of_z w32 z (fits_signed_from_abs w32 z (omega (arith, small)))

-- a place, where its indices are below 2 to the 20
pub place_is : (p : ImageParts) → Fit p → (k : ℕ) (e : Place) → k < length p.places.items → unsigned_abs (get_or p.places.items k e).n1 < 1048576 → unsigned_abs (get_or p.places.items k e).n2 < 1048576 → place_at (image_bytes p) k ≡ get_or p.places.items k e
place_is p h k e there small1 small2 =
    let b = image_bytes p in
    let it = get_or p.places.items k e in
    let size : length (places_numbers p) ≡ 3 * length p.places.items = length_each place_words 3 p.places.items (λ x. refl) in
    let at0 : places_begin b + 4 * (3 * k + 0) ≡ places_begin b + 12 * k = omega arith in
    let at1 : places_begin b + 4 * (3 * k + 1) ≡ places_begin b + 12 * k + 4 = omega arith in
    let at2 : places_begin b + 4 * (3 * k + 2) ≡ places_begin b + 12 * k + 8 = omega arith in
    let j = rw at0 at (place_number_is p h (3 * k + 0) (omega (arith, size))) ∙ flat_at place_words 3 p.places.items k 0 e (λ x. refl) there (omega arith) in
    let n1 = rw at1 at (place_number_is p h (3 * k + 1) (omega (arith, size))) ∙ flat_at place_words 3 p.places.items k 1 e (λ x. refl) there (omega arith) in
    let n2 = rw at2 at (place_number_is p h (3 * k + 2) (omega (arith, size))) ∙ flat_at place_words 3 p.places.items k 2 e (λ x. refl) there (omega arith) in
    same_place (place_at b k) it j (ap (λ (n : ℕ). cast_signed w32 n) n1 ∙ back it.n1 small1) (ap (λ (n : ℕ). cast_signed w32 n) n2 ∙ back it.n2 small2)
