-- The bytes of a stimulus' files. Lists of stamps have the last one first.
use Rattle.std.specs.Prelude.{ℕ, zero, suc, ◌+◌, ◌/◌, ◌%◌, ◌^◌, Bool, true, false, List, [], ◌∷◌, ◌++◌, Option, Some, None}
use Rattle.std.specs.Prelude.{ℤ, unsigned_abs, decimal, codes}
use Rattle.wheel_types.specs.declared.channel.Keep.{Keep}
use Rattle.capture_core.specs.declared.capture.Given.{Given}
use Rattle.capture_core.specs.declared.capture.Stamp.{Stamp}
use Rattle.capture_core.specs.declared.capture.Watch.{Watch}
use Rattle.capture_core.specs.Stamps.{known_after}

-- a text that stands where a cam is watched
abbrev pub text_if : Option Keep → List ℕ → List ℕ
text_if None text = []
text_if (Some keep) text = text

-- the digit of a level
abbrev pub level_digit : Bool → ℕ
level_digit false = 48
level_digit true = 49

-- ---- CSV

-- the last so many digits of a number
abbrev pub last_digits : ℕ → ℕ → List ℕ
last_digits zero n = []
last_digits (suc k) n = last_digits k (n / 10) ++ (48 + n % 10) ∷ []

-- femtoseconds as seconds with 15 decimals
abbrev pub seconds_text : ℕ → List ℕ
seconds_text t = decimal (t / 10 ^ 15) ++ (codes "." ++ last_digits 15 (t % 10 ^ 15))

-- the text of a level's field, where there is one
abbrev pub field_text : Option Bool → List ℕ
field_text None = []
field_text (Some level) = 44 ∷ level_digit level ∷ []

-- the fields, with one more where there is a level
abbrev pub with_field : Option Bool → List (List ℕ) → List (List ℕ)
with_field None fs = fs
with_field (Some level) fs = fs ++ (level_digit level ∷ []) ∷ []

-- the fields of a row: its time, and its levels in the order crank, first cam, second cam
abbrev pub row_fields : ℤ → Given → List (List ℕ)
row_fields t g = with_field g.cam2 (with_field g.cam1 (with_field g.crank (seconds_text (unsigned_abs t) ∷ [])))

-- a row with its time and all levels
abbrev pub row_text : ℤ → Given → List ℕ
row_text t g = seconds_text (unsigned_abs t) ++ (field_text g.crank ++ (field_text g.cam1 ++ (field_text g.cam2 ++ codes "\n")))

-- the rows of stamps, each with the levels that are known by then
abbrev pub rows_text : List Stamp → List ℕ
rows_text [] = []
rows_text (s ∷ past) = rows_text past ++ row_text s.time (known_after (s ∷ past))

-- the line of the columns' names
abbrev pub csv_header : Watch → List ℕ
csv_header watch = codes "time,crank" ++ (text_if watch.cam1 (codes ",cam1") ++ (text_if watch.cam2 (codes ",cam2") ++ codes "\n"))

-- the whole file of comma-separated values
abbrev pub csv_text : Watch → List Stamp → List ℕ
csv_text watch stamps = csv_header watch ++ rows_text stamps

-- ---- value change dump

-- the change of a signal of this code, where a level is given
abbrev pub change_text : Option Bool → ℕ → List ℕ
change_text None code = []
change_text (Some level) code = level_digit level ∷ code ∷ 10 ∷ []

-- the changes of a stamp: crank, first cam, second cam, whose codes are `!`, `"` and `#`
abbrev pub changes_text : Given → List ℕ
changes_text g = change_text g.crank 33 ++ (change_text g.cam1 34 ++ change_text g.cam2 35)

-- a time and its changes
abbrev pub stamp_text : Stamp → List ℕ
stamp_text s = 35 ∷ decimal (unsigned_abs s.time) ++ (codes "\n" ++ changes_text s.given)

-- the levels at time 0
abbrev pub dump_text : Given → List ℕ
dump_text g = codes "#0\n$dumpvars\n" ++ (changes_text g ++ codes "$end\n")

-- the stamps, of which the first has time 0
abbrev pub stamps_text : List Stamp → List ℕ
stamps_text [] = []
stamps_text (s ∷ []) = dump_text s.given
stamps_text (s ∷ r ∷ past) = stamps_text (r ∷ past) ++ stamp_text s

-- the lines that name the unit of time and the signals
abbrev pub vcd_header : Watch → List ℕ
vcd_header watch =
    codes "$timescale 1 fs $end\n$scope module wheel $end\n$var wire 1 ! crank $end\n"
    ++ (text_if watch.cam1 (codes "$var wire 1 \" cam1 $end\n")
    ++ (text_if watch.cam2 (codes "$var wire 1 # cam2 $end\n") ++ codes "$upscope $end\n$enddefinitions $end\n"))

-- the whole value change dump
abbrev pub vcd_text : Watch → List Stamp → List ℕ
vcd_text watch stamps = vcd_header watch ++ stamps_text stamps
