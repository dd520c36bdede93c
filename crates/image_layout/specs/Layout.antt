-- How many entries the sections of an image have, and at which bytes they begin.
use Rattle.std.specs.Prelude.{ℕ, ◌+◌, ◌*◌, ◌/◌, List, drop}
use Rattle.byteorder.specs.Endian.{little_number}

-- the number that n bytes from a place on hold, lowest byte first
unfoldable pub number_at : ℕ → List ℕ → ℕ → ℕ
number_at n b at = little_number n (drop at b)

-- the word of four bytes at a place
abbrev pub word_at : List ℕ → ℕ → ℕ
word_at b at = number_at 4 b at

-- how many slots the wheel has
abbrev pub slot_total : List ℕ → ℕ
slot_total b = word_at b 12

-- how many places there are
abbrev pub place_total : List ℕ → ℕ
place_total b = word_at b 16

-- how many time cuts there are
abbrev pub time_total : List ℕ → ℕ
time_total b = word_at b 20

-- how many ratio cuts there are
abbrev pub ratio_total : List ℕ → ℕ
ratio_total b = word_at b 24

-- how many states there are, the dead one among them
abbrev pub state_total : List ℕ → ℕ
state_total b = word_at b 28

-- the words of 64 bits that a set of so many places takes
abbrev pub words_for : ℕ → ℕ
words_for places = (places + 63) / 64

-- the words of each set of the image
abbrev pub set_words : List ℕ → ℕ
set_words b = words_for (place_total b)

-- the columns that so many cuts make: a time class more than time cuts, two ratio classes for each ratio cut and one more, and 26 shapes
abbrev pub width_for : ℕ → ℕ → ℕ
width_for times ratios = times + 1 + (2 * ratios + 1) + 26

-- the entries of each row of the image
abbrev pub row_width : List ℕ → ℕ
row_width b = width_for (time_total b) (ratio_total b)

-- the length of a section with its padding, a multiple of 8
abbrev pub padded_to : ℕ → ℕ
padded_to length = (length + 7) / 8 * 8

-- the slots stand behind the header
abbrev pub slots_begin : List ℕ → ℕ
slots_begin b = 72

-- the places stand behind the slots
abbrev pub places_begin : List ℕ → ℕ
places_begin b = slots_begin b + padded_to (slot_total b)

-- the time cuts stand behind the places
abbrev pub times_begin : List ℕ → ℕ
times_begin b = places_begin b + padded_to (12 * place_total b)

-- the ratio cuts stand behind the time cuts
abbrev pub ratios_begin : List ℕ → ℕ
ratios_begin b = times_begin b + 8 * time_total b

-- the kinds stand behind the ratio cuts
abbrev pub kinds_begin : List ℕ → ℕ
kinds_begin b = ratios_begin b + 8 * ratio_total b

-- the member sets stand behind the kinds
abbrev pub members_begin : List ℕ → ℕ
members_begin b = kinds_begin b + 16 * state_total b

-- the rows stand behind the member sets
abbrev pub rows_begin : List ℕ → ℕ
rows_begin b = members_begin b + 8 * (state_total b * set_words b)

-- the last row ends here
abbrev pub rows_end : List ℕ → ℕ
rows_end b = rows_begin b + 2 * (state_total b * row_width b)

-- the image ends here, behind the padding of its rows
abbrev pub image_end : List ℕ → ℕ
image_end b = rows_begin b + padded_to (2 * (state_total b * row_width b))
