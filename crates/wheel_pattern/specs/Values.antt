-- Numbers, lists of numbers and polarities in a value of a document.
use Rattle.std.specs.Prelude.{ℕ, ◌^◌, ℤ, pos, negsuc, ◌&&◌, nat_lt, nat_le, if◌then◌else◌, List, [], ◌∷◌, Option, Some, None, option_map, option_and_then, codes, bytes_eq, Vec}
use Rattle.std.specs.declared.alloc.Global.{Global}
use Rattle.toml.specs.Data.{Data, Items, no_items, item, as_integer, as_array, as_str}
use Rattle.wheel_types.specs.declared.channel.Keep.{Keep}
use Rattle.wheel_types.specs.declared.channel.Keep.TheVariants.{Rising, Falling, Both}

-- an integer as a whole number from `low`, below `bound`
abbrev pub whole_from : ℕ → ℕ → ℤ → Option ℕ
whole_from low bound (pos n) = if nat_le low n && nat_lt n bound then Some n else None
whole_from low bound (negsuc n) = None

-- a whole number below a bound
abbrev pub whole_below : ℕ → Data → Option ℕ
whole_below bound d = option_and_then (whole_from 0 bound) (as_integer d)

-- a whole number from 1, below a bound
abbrev pub count_below : ℕ → Data → Option ℕ
count_below bound d = option_and_then (whole_from 1 bound) (as_integer d)

-- a whole number from 0 to 2^32 - 1
abbrev pub whole : Data → Option ℕ
whole d = whole_below (2 ^ 32) d

-- one more in front, where both are there
abbrev pub in_front : Option ℕ → Option (List ℕ) → Option (List ℕ)
in_front None ns = None
in_front (Some n) ns = option_map (λ rest. n ∷ rest) ns

-- the numbers of an array's items, where each is a whole number below a bound
abbrev pub all_below : ℕ → Items → Option (List ℕ)
all_below bound no_items = Some []
all_below bound (item d ds) = in_front (whole_below bound d) (all_below bound ds)

-- the numbers of an array of whole numbers from 0 to 255
abbrev pub slot_values : Data → Option (List ℕ)
slot_values d = option_and_then (all_below 256) (as_array d)

-- two values, where both are there
abbrev pub both : {A B : Type 0} → Option A → Option B → Option (A × B)
both None b = None
both (Some a) None = None
both (Some a) (Some b) = Some (a, b)

-- what two items are read as, where there are exactly two
abbrev pub two_items : {A B : Type 0} → (Data → Option A) → (Data → Option B) → Items → Option (A × B)
two_items first second no_items = None
two_items first second (item d no_items) = None
two_items first second (item d (item e no_items)) = both (first d) (second e)
two_items first second (item d (item e (item f more))) = None

-- what an array of two is read as
abbrev pub pair_of : {A B : Type 0} → (Data → Option A) → (Data → Option B) → Data → Option (A × B)
pair_of first second d = option_and_then (two_items first second) (as_array d)

-- the kept polarity that a text names
abbrev pub keep_named : List ℕ → Option Keep
keep_named s =
    if bytes_eq s (codes "rising") then Some Rising
    else if bytes_eq s (codes "falling") then Some Falling
    else if bytes_eq s (codes "both") then Some Both
    else None

-- the kept polarity that a value names
abbrev pub keep_in : Data → Option Keep
keep_in d = option_and_then keep_named (as_str d)

-- the list in a `Vec` that may be there
abbrev pub option_items : Option (Vec ℕ Global) → Option (List ℕ)
option_items None = None
option_items (Some v) = Some v.items
