-- Words that are numbers, and those that name a form of a capture.
use Rattle.std.specs.Prelude.{ℕ, Bool, false, ◌&&◌, nat_le, List, [], ◌∷◌, if◌then◌else◌, codes, Some, None}
use Rattle.std.specs.List.{list_all}
use Rattle.std.specs.declared.option.Option.{Option}
use Rattle.capture_core.specs.Numerals.{is_digit, number}
use Rattle.command_words.specs.declared.numbers.Form.{Form}
use Rattle.command_words.specs.declared.numbers.Form.TheVariants.{Vcd, Csv}
use Rattle.command_words.specs.Same.{same}

-- whether a word is of digits alone, of one at least
abbrev pub is_numeral : List ℕ → Bool
is_numeral [] = false
is_numeral (d ∷ digits) = list_all is_digit (d ∷ digits)

-- the number that a word of digits spells, where it is from `least` to `most`
abbrev pub number_of : (least most : ℕ) → List ℕ → Option ℕ
number_of least most word =
    if is_numeral word && (nat_le least (number word) && nat_le (number word) most) then Some (number word) else None

-- the seed that a word spells: what 64 bits hold
abbrev pub seed_of : List ℕ → Option ℕ
seed_of word = number_of 0 18446744073709551615 word

-- how many gaps a word asks for: from one to a million
abbrev pub gaps_of : List ℕ → Option ℕ
gaps_of word = number_of 1 1000000 word

-- the form that a word names
abbrev pub form_of : List ℕ → Option Form
form_of word =
    if same word (codes "vcd") then Some Vcd
    else if same word (codes "csv") then Some Csv
    else None
