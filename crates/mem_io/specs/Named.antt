-- Files as two lists, their names and their contents. The first of a name counts.
use Rattle.std.specs.Prelude.{◌≡◌, ℕ, ◌<◌, ◌≤◌, ◌&&◌, Bool, List, [], ◌∷◌, length, get_or, true, false, not, nat_eq, Some, None, if◌then◌else◌, map, string_bytes, String, Vec}
use Rattle.std.specs.declared.alloc.Global.{Global}
use Rattle.std.specs.declared.option.Option.{Option}
use Rattle.std.specs.List.{list_any}
use Rattle.std.specs.Cmp.Lexicographic.{pointwise}

-- the bytes of the first file of this name
abbrev pub file_in : List (List ℕ) → List (List ℕ) → List ℕ → Option (List ℕ)
file_in [] contents name = None
file_in (n ∷ names) [] name = None
file_in (n ∷ names) (bytes ∷ contents) name = if pointwise nat_eq n name then Some bytes else file_in names contents name

-- no name stands twice
abbrev pub all_differ : List (List ℕ) → Bool
all_differ [] = true
all_differ (n ∷ names) = not (list_any (λ m. pointwise nat_eq m n) names) && all_differ names

-- no file has this name
pub record IsAbsent (names : List (List ℕ)) (name : List ℕ) : Type 0 where
  pub none : (k : ℕ) → k < length names → pointwise nat_eq (get_or names k []) name ≡ false

-- the first file of this name is the one at this place
pub record IsNamed (names : List (List ℕ)) (i : ℕ) (name : List ℕ) : Type 0 where
  pub within : i < length names
  pub here : get_or names i [] ≡ name
  pub before : (k : ℕ) → k < i → pointwise nat_eq (get_or names k []) name ≡ false

-- each slot's file is the first of its name
abbrev pub SlotsNamed : List (List ℕ) → List ℕ → Type 0
SlotsNamed names files = (k : ℕ) → k < length files → IsNamed names (get_or files k 0) (get_or names (get_or files k 0) [])

-- each name stays at its place
pub record KeepsNames (old new : List (List ℕ)) : Type 0 where
  pub longer : length old ≤ length new
  pub same : (k : ℕ) → k < length old → get_or new k [] ≡ get_or old k []

-- the names of files
abbrev pub names_of : List (String Global × Vec ℕ Global) → List (List ℕ)
names_of files = map (λ f. string_bytes f.0) files

-- the bytes of files
abbrev pub contents_of : List (String Global × Vec ℕ Global) → List (List ℕ)
contents_of files = map (λ f. f.1.items) files
