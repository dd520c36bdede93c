use Rattle.std.proofs.Common.{◌∙◌, ◌++◌, ◌∷◌, [], ap, sym}
use Rattle.shelf_traits.specs.declared.shelf.Way.TheVariants.{Reads}
use Rattle.mem_io.specs.Named.{names_of, contents_of}
use Rattle.mem_io.specs.Slots.{ways_of, files_of, places_of}
use Rattle.mem_io.proofs.Names.{length-names, length-contents, not_absent}
use Rattle.mem_io.proofs.Views.{opens_ok, ways_files, files_places}
use Rattle.mem_io.proofs.mem_shelf.MemShelfShelf.open.Goals as goal

pub returns-in_default-next-clause-absent : goal.returns-in_default-next-clause-absent
returns-in_default-next-clause-absent c = λ h.
    let files = c.args.self.now.files.list.items in
    absurd (not_absent (names_of files) (contents_of files) c.in-Some.file c.args.name.now (length-names files ∙ sym (length-contents files)) c.in-Some.ensures.found h)

pub returns-in_err-reserve-clause-absent : goal.returns-in_err-reserve-clause-absent
returns-in_err-reserve-clause-absent c = λ h.
    let files = c.args.self.now.files.list.items in
    absurd (not_absent (names_of files) (contents_of files) c.in-Some.file c.args.name.now (length-names files ∙ sym (length-contents files)) c.in-Some.ensures.found h)

pub returns-clause-opens : goal.returns-clause-opens
returns-clause-opens c =
    let files = c.args.self.now.files.list.items in
    let slots = c.args.self.now.slots in
    opens_ok c.args.self.now.faults_in c.args.self.now.faults_out (ways_of slots) (ways_of c.add.new.self) _ _ (names_of files) (contents_of files)
    (files_of slots) (files_of c.add.new.self) (places_of slots) (places_of c.add.new.self) c.in-Some-next.slot c.in-Some.file c.args.name.now
    (c.add.ensures.ways ∙ ap (λ l. l ++ Reads ∷ []) c.in_ok-reserve.ensures.ways)
    (c.add.ensures.files ∙ ap (λ l. l ++ c.in-Some.file ∷ []) c.in_ok-reserve.ensures.files)
    (c.add.ensures.places ∙ ap (λ l. l ++ 0 ∷ []) c.in_ok-reserve.ensures.places)
    c.in-Some-next.ensures.some (ways_files slots) (files_places slots) (length-names files ∙ sym (length-contents files)) c.args.self.now.named c.in-Some.ensures.found c.fails_next.ensures.stays

pub returns-clause-absent : goal.returns-clause-absent
returns-clause-absent c = λ h.
    let files = c.args.self.now.files.list.items in
    absurd (not_absent (names_of files) (contents_of files) c.in-Some.file c.args.name.now (length-names files ∙ sym (length-contents files)) c.in-Some.ensures.found h)
