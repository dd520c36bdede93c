use Rattle.std.proofs.Common.{◌∙◌, ◌++◌, ◌∷◌, [], ap}
use Rattle.shelf_traits.specs.declared.shelf.Way.TheVariants.{Writes}
use Rattle.mem_io.specs.Named.{names_of, contents_of}
use Rattle.mem_io.specs.Slots.{ways_of, files_of, places_of}
use Rattle.mem_io.proofs.Views.{creates_ok, ways_files, files_places}
use Rattle.mem_io.proofs.mem_shelf.MemShelfShelf.create.Goals as goal

pub returns-clause-creates : goal.returns-clause-creates
returns-clause-creates c =
    let files = c.args.self.now.files.list.items in
    let slots = c.args.self.now.slots in
    creates_ok c.args.self.now.faults_in c.args.self.now.faults_out (ways_of slots) (ways_of c.add.new.self) _ _ (names_of files) (names_of c.make.new.self.list.items)
    (contents_of files) (contents_of c.make.new.self.list.items) (files_of slots) (files_of c.add.new.self) (places_of slots) (places_of c.add.new.self) c.in-Some.slot c.in_ok-file.file c.args.name.now
    (c.add.ensures.ways ∙ ap (λ l. l ++ Writes ∷ []) c.in_ok-reserve.ensures.ways)
    (c.add.ensures.files ∙ ap (λ l. l ++ c.in_ok-file.file ∷ []) c.in_ok-reserve.ensures.files)
    (c.add.ensures.places ∙ ap (λ l. l ++ 0 ∷ []) c.in_ok-reserve.ensures.places)
    c.in-Some.ensures.some (ways_files slots) (files_places slots) c.in_ok-file.ensures.keeps c.args.self.now.named c.in_ok-file.ensures.named c.fails_next.ensures.stays
    c.in_ok-file.ensures.emptied c.in_ok-file.ensures.others
