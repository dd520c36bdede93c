-- What a shelf in memory shows.
use Rattle.std.specs.Prelude.{ℕ, Bool, List, [], get_or, true}
use Rattle.shelf_traits.specs.declared.shelf.Way.{Way}
use Rattle.mem_io.specs.declared.calls.Calls.{Calls}
use Rattle.mem_io.specs.declared.mem_shelf.MemShelf.{MemShelf}
use Rattle.shelf_traits.specs.Shelf.{View, Position}
use Rattle.mem_io.specs.Calls.{is_calm}
use Rattle.mem_io.specs.Named.{file_in, names_of, contents_of}
use Rattle.mem_io.specs.Slots.{ways_of, files_of, places_of}

-- a slot's file by name and its place, from the list of names and what each slot says
abbrev pub position_in : List (List ℕ) → List ℕ → List ℕ → ℕ → Position
position_in names files places slot = record { name = get_or names (get_or files slot 0) []; at = get_or places slot 0 }

-- the view of these counts, slots and files
abbrev pub view_of : (faults_in faults_out : ℕ) → List Way → Bool → (names contents : List (List ℕ)) → (files places : List ℕ) → View
view_of faults_in faults_out ways steady names contents files places = record {
  faults_in = faults_in;
  faults_out = faults_out;
  ways = ways;
  tells = true;
  steady = steady;
  file = λ name. file_in names contents name;
  place = λ slot. position_in names files places slot;
}

-- what the shelf shows: it tells its files, and is steady where no call from the next on fails
abbrev pub mem_view : MemShelf → View
mem_view s = view_of s.faults_in s.faults_out (ways_of s.slots) (is_calm s.calls.fails.items s.calls.next)
    (names_of s.files.list.items) (contents_of s.files.list.items) (files_of s.slots) (places_of s.slots)

-- the number of the next call, and those that fail
abbrev pub mem_calls : MemShelf → Calls
mem_calls s = s.calls

-- how many bytes a read gives at most
abbrev pub mem_piece : MemShelf → ℕ
mem_piece s = s.piece
