-- What a token brings among the changes of a dump.
use Rattle.std.specs.Prelude.{ℕ, ◌*◌, ◌^◌, ◌||◌, ◌==◌, nat_lt, if◌then◌else◌, List, [], ◌∷◌, Option, None, Bool, pos, int_lt}
use Rattle.std.specs.List.{list_all}
use Rattle.capture_core.specs.declared.capture.VcdFault.TheVariants.{TimeFalls, TimeTooLarge}
use Rattle.capture_core.specs.Stamps.{nothing}
use Rattle.vcd_reader.specs.Readings.{Body, Reading, changes, wanting, skipping, refused, bad}
use Rattle.capture_core.specs.Numerals.{is_digit, number}
use Rattle.vcd_header.specs.Texts.{is_code_byte}
use Rattle.vcd_header.specs.Values.{is_value, is_idle, level_of, last_of, given_by}

-- the open stamp is closed, and one of a later time is opened
abbrev pub at_later : Body → ℕ → Body
at_later b time = record { scale = b.scale; signals = b.signals; closed = b.now ∷ b.closed; now = record { time = pos time; given = nothing } }

-- the time is now this one, in femtoseconds
abbrev pub at_time : Body → ℕ → ℕ → Reading
at_time b time at =
    if nat_lt (10 ^ 24) time then refused b.closed (TimeTooLarge at) else
    if int_lt (pos time) b.now.time then refused b.closed (TimeFalls at) else
    if int_lt b.now.time (pos time) then changes (at_later b time) else changes b

-- the digits of a time
abbrev pub time_token : Body → List ℕ → ℕ → Reading
time_token b [] at = bad b.closed at
time_token b (d ∷ digits) at = if list_all is_digit (d ∷ digits) then at_time b (number (d ∷ digits) * b.scale) at else bad b.closed at

-- a change of the signal with this code to this level
abbrev pub after_change : Body → Option Bool → List ℕ → Body
after_change b level code = record { scale = b.scale; signals = b.signals; closed = b.closed; now = record { time = b.now.time; given = given_by b.signals level code b.now.given } }

-- the code of a change
abbrev pub code_token : Body → Option Bool → List ℕ → ℕ → Reading
code_token b level [] at = bad b.closed at
code_token b level (c ∷ code) at = if list_all is_code_byte (c ∷ code) then changes (after_change b level (c ∷ code)) else bad b.closed at

-- the values of a vector, of which the last is the level
abbrev pub vector_token : Body → List ℕ → ℕ → Reading
vector_token b [] at = bad b.closed at
vector_token b (v ∷ values) at = if list_all is_value (v ∷ values) then wanting b (level_of (last_of values v)) else bad b.closed at

-- the number of a real change, which gives no level
abbrev pub real_token : Body → List ℕ → ℕ → Reading
real_token b [] at = bad b.closed at
real_token b (c ∷ bytes) at = wanting b None

-- a keyword among the changes
abbrev pub keyword_token : Body → List ℕ → Reading
keyword_token b text = if is_idle text then changes b else skipping b

-- a token between two changes that is neither a time nor a scalar change, by its first byte, the rest, and the whole
abbrev pub other_token : Body → ℕ → List ℕ → List ℕ → ℕ → Reading
other_token b c rest text at =
    if (c == 98) || (c == 66) then vector_token b rest at else
    if (c == 114) || (c == 82) then real_token b rest at else
    if (c == 115) || (c == 83) then wanting b None else
    if c == 36 then keyword_token b text else bad b.closed at

-- a token between two changes: a time, a scalar change with its code, or another
abbrev pub change_token : Body → List ℕ → ℕ → Reading
change_token b [] at = bad b.closed at
change_token b (c ∷ rest) at =
    if c == 35 then time_token b rest at else
    if is_value c then code_token b (level_of c) rest at else other_token b c rest (c ∷ rest) at
