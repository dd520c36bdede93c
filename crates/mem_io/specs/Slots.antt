-- Slots in memory, as lists of what each slot says.
use Rattle.std.specs.Prelude.{ℕ, List, map}
use Rattle.shelf_traits.specs.declared.shelf.Way.{Way}
use Rattle.mem_io.specs.declared.mem_slots.Slots.{Slots}

-- which call gave each slot
abbrev pub ways_of : Slots → List Way
ways_of s = map (λ x. x.way) s.list.items

-- where the list of files has each slot's file
abbrev pub files_of : Slots → List ℕ
files_of s = map (λ x. x.file) s.list.items

-- how many bytes were read from each slot
abbrev pub places_of : Slots → List ℕ
places_of s = map (λ x. x.at) s.list.items
