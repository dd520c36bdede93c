-- The entries of an image's sections, and the wheel that it holds.
use Rattle.std.specs.Prelude.{ℕ, ◌+◌, ◌*◌, ◌/◌, ◌%◌, List, drop, take, slice_index, slice_range, ◌==◌, if◌then◌else◌}
use Rattle.std.specs.Int.{cast_signed, w32}
use Rattle.wheel_types.specs.declared.place.Place.{Place}
use Rattle.wheel_types.specs.declared.channel.Keep.{Keep}
use Rattle.wheel_types.specs.declared.channel.Keep.TheVariants.{Rising, Falling, Both}
use Rattle.wheel_types.specs.declared.channel.Channel.TheVariants.{Crank}
use Rattle.wheel_types.specs.declared.parts.WheelParts.{WheelParts}
use Rattle.wheel_types.specs.Edges.{edge_count}
use Rattle.image_layout.specs.declared.kind.Kind.{Kind}
use Rattle.image_layout.specs.declared.kind.Kind.TheVariants.{Dead, At, Open}
use Rattle.image_layout.specs.Layout.{number_at, word_at, slot_total, set_words, row_width, slots_begin, places_begin, times_begin, ratios_begin, kinds_begin, members_begin, rows_begin}

-- the value of slot k
abbrev pub slot_at : List ℕ → ℕ → ℕ
slot_at b k = slice_index b (slots_begin b + k)

-- place k
abbrev pub place_at : List ℕ → ℕ → Place
place_at b k = record {
  j = number_at 4 b (places_begin b + 12 * k);
  n1 = cast_signed w32 (number_at 4 b (places_begin b + 12 * k + 4));
  n2 = cast_signed w32 (number_at 4 b (places_begin b + 12 * k + 8));
}

-- time cut k, in femtoseconds
abbrev pub time_cut_at : List ℕ → ℕ → ℕ
time_cut_at b k = number_at 8 b (times_begin b + 8 * k)

-- the top of ratio cut k
abbrev pub ratio_top_at : List ℕ → ℕ → ℕ
ratio_top_at b k = number_at 4 b (ratios_begin b + 8 * k)

-- the bottom of ratio cut k
abbrev pub ratio_bottom_at : List ℕ → ℕ → ℕ
ratio_bottom_at b k = number_at 4 b (ratios_begin b + 8 * k + 4)

-- word 0 to 3 of a state's kind: its phase, its kind, and the kind's two numbers
abbrev pub kind_word_at : List ℕ → ℕ → ℕ → ℕ
kind_word_at b q w = number_at 4 b (kinds_begin b + 16 * q + 4 * w)

-- the phase of state q
abbrev pub phase_at : List ℕ → ℕ → ℕ
phase_at b q = kind_word_at b q 0

-- what a kind's three words say: 0 is dead, 1 at a crank edge, and else open between two places
abbrev pub kind_for : ℕ → ℕ → ℕ → Kind
kind_for kind e f = if kind == 0 then Dead else if kind == 1 then At e else Open e f

-- the kind of state q
abbrev pub kind_at : List ℕ → ℕ → Kind
kind_at b q = kind_for (kind_word_at b q 1) (kind_word_at b q 2) (kind_word_at b q 3)

-- word w of the set of state q, whose bit i is place 64 * w + i
abbrev pub member_at : List ℕ → ℕ → ℕ → ℕ
member_at b q w = number_at 8 b (members_begin b + 8 * (q * set_words b + w))

-- entry e of all rows, state after state
abbrev pub row_number_at : List ℕ → ℕ → ℕ
row_number_at b e = number_at 2 b (rows_begin b + 2 * e)

-- the state that a column leads to from state q
abbrev pub entry_at : List ℕ → ℕ → ℕ → ℕ
entry_at b q column = row_number_at b (q * row_width b + column)

-- the bytes of the row of state q
abbrev pub row_of : List ℕ → ℕ → List ℕ
row_of b q =
    slice_range b (rows_begin b + 2 * (q * row_width b)) (rows_begin b + 2 * (q * row_width b) + 2 * row_width b)

-- the kept edges that two bits name
abbrev pub keep_for : ℕ → Keep
keep_for word = if word == 1 then Rising else if word == 2 then Falling else Both

-- the two bits of a channel in the word of kept edges: the crank's stand at 1, the cams' at 4 and 16
abbrev pub kept_at : List ℕ → ℕ → ℕ
kept_at b shift = word_at b 36 / shift % 4

-- the wheel of the header and the slots
abbrev pub wheel_parts_of : List ℕ → WheelParts
wheel_parts_of b = record {
  degrees = word_at b 32;
  slots = take (slot_total b) (drop (slots_begin b) b);
  crank = keep_for (kept_at b 1);
  cam1 = keep_for (kept_at b 4);
  cam2 = keep_for (kept_at b 16);
  cam1_early = word_at b 40;
  cam1_late = word_at b 44;
  cam2_early = word_at b 48;
  cam2_late = word_at b 52;
  rpm_low = word_at b 56;
  rpm_high = word_at b 60;
  rn = word_at b 64;
  rd = word_at b 68;
}

-- how many edges of the crank the wheel keeps
abbrev pub crank_total : List ℕ → ℕ
crank_total b = edge_count (wheel_parts_of b) Crank
