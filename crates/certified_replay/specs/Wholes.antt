-- A text that did not go out whole.
use Rattle.std.specs.Prelude.{ℕ, ◌<◌, List, length, take}
use Rattle.std.specs.declared.option.Option.{Option}
use Rattle.std.specs.Io.KnownBytes.{Appends}
use Rattle.shelf_traits.specs.Shelf.{View}
use Rattle.run_ends.specs.Filing.{Grows}

-- told bytes grow by a front of the text, which is not all of it
abbrev pub AppendsPart : Option (List ℕ) → Option (List ℕ) → List ℕ → Type 0
AppendsPart old new text = (k : ℕ) × ((k < length text) × Appends old new (take k text))

-- a slot's file grows by a front of the piece, which is not all of it
abbrev pub GrowsByPart : (v w : View) (slot : ℕ) (piece : List ℕ) → Type 0
GrowsByPart v w slot piece = (k : ℕ) × ((k < length piece) × Grows v w slot (take k piece))
