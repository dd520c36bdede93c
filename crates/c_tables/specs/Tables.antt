-- The slot table of a C source: the numbers of the array of a name.
use Rattle.std.specs.Prelude.{ℕ, ◌+◌, ◌*◌, ◌-◌, Bool, true, false, ◌&&◌, nat_lt, bytes_eq, codes, if◌then◌else◌, List, [], ◌∷◌, length, fold, position, Option, Some, None, Result, Ok, Err}
use Rattle.std.specs.List.{list_all}
use Rattle.c_tables.specs.declared.fault.TableFault.{TableFault}
use Rattle.c_tables.specs.declared.fault.TableFault.TheVariants.{BadText, SlotValue}
use Rattle.c_tables.specs.declared.body.Wanted.{Wanted}
use Rattle.c_tables.specs.declared.body.Wanted.TheVariants.{FirstEntry, CommaOrEnd, EntryOrEnd}
use Rattle.c_tables.specs.declared.body.Part.{Part}
use Rattle.c_tables.specs.declared.body.Part.TheVariants.{Entry, Comma, End, Misfit}
use Rattle.c_tables.specs.Arrays.{is, bodies, one_body}
use Rattle.c_tables.specs.Tokens.{Token, is_digit, tokens}

-- the number that digits spell
abbrev pub number : List ℕ → ℕ
number digits = fold (λ n digit. n * 10 + (digit - 48)) 0 digits

-- an entry may stand where this is wanted
abbrev pub takes_entry : Wanted → Bool
takes_entry FirstEntry = true
takes_entry CommaOrEnd = false
takes_entry EntryOrEnd = true

-- a comma may stand where this is wanted
abbrev pub takes_comma : Wanted → Bool
takes_comma FirstEntry = false
takes_comma CommaOrEnd = true
takes_comma EntryOrEnd = false

-- the body may end where this is wanted
abbrev pub takes_end : Wanted → Bool
takes_end FirstEntry = false
takes_end CommaOrEnd = true
takes_end EntryOrEnd = true

-- what a token of these bytes is in a body, where this is wanted
abbrev pub part_of : Wanted → List ℕ → Part
part_of wanted text =
    if takes_entry wanted && list_all is_digit text then Entry
    else if takes_comma wanted && bytes_eq text (codes ",") then Comma
    else if takes_end wanted && bytes_eq text (codes "}") then End
    else Misfit

-- one more value in front, where the others are there
abbrev pub in_front : ℕ → Result (List ℕ) TableFault → Result (List ℕ) TableFault
in_front value (Ok values) = Ok (value ∷ values)
in_front value (Err fault) = Err fault

-- nothing more in a body whose `}` these tokens follow, if a `;` is the first
abbrev pub ended : ℕ → List Token → Result (List ℕ) TableFault
ended end [] = Err (BadText end)
ended end (t ∷ ts) = if is (codes ";") t then Ok [] else Err (BadText t.at)

-- the values of the entries of a body from where this is wanted, or the first token that doesn't fit; the source has its end at `end`
abbrev pub entries : ℕ → Wanted → List Token → Result (List ℕ) TableFault
entries end wanted [] = Err (BadText end)
entries end wanted (t ∷ ts) = elim (part_of wanted t.text) [
  | Entry ↦ in_front (number t.text) (entries end CommaOrEnd ts)
  | Comma ↦ entries end EntryOrEnd ts
  | End ↦ ended end ts
  | Misfit ↦ Err (BadText t.at)
]

-- the values, where none is past 7, which is told by the place of the first that is
abbrev pub unless_past : Option ℕ → List ℕ → Result (List ℕ) TableFault
unless_past None values = Ok values
unless_past (Some at) values = Err (SlotValue at)

-- the values as those of slots
abbrev pub as_slots : List ℕ → Result (List ℕ) TableFault
as_slots values = unless_past (position (λ value. nat_lt 7 value) values) values

-- what the next step makes of what was found, or the fault in its place
infixl 10 ◌>>=◌
abbrev pub ◌>>=◌ : {T U : Type 0} → Result T TableFault → (T → Result U TableFault) → Result U TableFault
Ok found >>= next = next found
Err fault >>= next = Err fault

-- the slots of the array of this name, or why the source gives none
abbrev pub table_in : List ℕ → List ℕ → Result (List ℕ) TableFault
table_in name bytes =
    one_body (bodies name (tokens bytes)) >>= λ body.
    entries (length bytes) FirstEntry body >>= λ values.
    as_slots values
