-- What stands at the keys of a document, and what it is read as.
use Rattle.std.specs.Prelude.{◌≡◌, ℕ, ◌||◌, Bool, if◌then◌else◌, List, Option, Some, is_some, is_none, option_and_then, Result, Ok, Err, ok_or, IsUtf8}
use Rattle.toml.specs.Data.{Data, Members, get_member}
use Rattle.toml.specs.Parse.{parse_document}
use Rattle.wheel_pattern.specs.declared.keys.Key.{Key}
use Rattle.wheel_pattern.specs.declared.keys.Key.TheVariants.{Teeth, Missing, Cam1High, Cam2High}
use Rattle.wheel_pattern.specs.declared.fault.PatternFault.{PatternFault}
use Rattle.wheel_pattern.specs.declared.fault.PatternFault.TheVariants.{BadValue}
use Rattle.wheel_pattern.specs.Keys.{text_of}

-- a look-up: what stands at each key
abbrev pub Lookup : Type 0
Lookup = Key → Option Data

-- the bytes are a document with these members
abbrev pub IsDocumentOf : List ℕ → Members → Type 0
IsDocumentOf bytes ms = IsUtf8 bytes × (parse_document bytes ≡ Some ms)

-- the bytes are a document
abbrev pub IsDocument : List ℕ → Type 0
IsDocument bytes = (ms : Members) × IsDocumentOf bytes ms

-- what the members at the top of a document give at each key
abbrev pub values_of : Members → Lookup
values_of ms key = get_member (text_of key) ms

-- a file is in the short form where a key of a tooth pattern stands
abbrev pub is_short : Lookup → Bool
is_short at = (is_some (at Teeth) || is_some (at Missing)) || (is_some (at Cam1High) || is_some (at Cam2High))

-- what the next step makes of a value, or the fault in its place
infixl 10 ◌>>=◌
abbrev pub ◌>>=◌ : {T U : Type 0} → Result T PatternFault → (T → Result U PatternFault) → Result U PatternFault
Ok t >>= next = next t
Err fault >>= next = Err fault

-- what the value at a key is read as, where it is of its kind and range
abbrev pub given : {T : Type 0} → Lookup → Key → (Data → Option T) → Result T PatternFault
given at key read = ok_or (option_and_then read (at key)) (BadValue key)

-- the same of a value that may be left out, for which `usual` stands
abbrev pub optional : {T : Type 0} → T → Lookup → Key → (Data → Option T) → Result T PatternFault
optional usual at key read = if is_none (at key) then Ok usual else given at key read
