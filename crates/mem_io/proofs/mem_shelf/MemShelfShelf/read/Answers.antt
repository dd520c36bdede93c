use Rattle.std.proofs.Common.{◌∙◌, ◌<◌, ◌≡◌, [], get_or, length, ap, sym, min, drop}
use Rattle.mem_io.specs.Named.{names_of, contents_of, IsNamed}
use Rattle.mem_io.specs.Slots.{ways_of, files_of, places_of}
use Rattle.shelf_traits.specs.Shelf.{file_at}
use Rattle.mem_io.specs.MemShelf.{mem_view}
use Rattle.mem_io.specs.Calls.{is_calm}
use Rattle.mem_io.proofs.Names.{length-names, length-contents, slot_within}
use Rattle.mem_io.proofs.Views.{gave_ok, file_here}
use Rattle.mem_io.proofs.mem_shelf.MemShelfShelf.read.Goals as goal

pub returns-clause-gave : goal.returns-clause-gave
returns-clause-gave c = λ h.
    let files = c.args.self.now.files.list.items in
    let slots = c.args.self.now.slots in
    let known : c.args.slot < length (files_of slots) = slot_within slots.list.items (λ x. x.way) (λ x. x.file) c.args.slot _ c.requires.reader in
    let within : c.args.slot < length (places_of slots) = slot_within slots.list.items (λ x. x.way) (λ x. x.at) c.args.slot _ c.requires.reader in
    gave_ok _ _ _ _ (ways_of slots) (ways_of c.move_to.new.self) _ _ (names_of files) (contents_of files) (files_of slots) (files_of c.move_to.new.self) (places_of slots) (places_of c.move_to.new.self)
    c.args.slot c.file-file.result c.place-at.result c.give-count.result c.give-count.new.buf
    c.move_to.ensures.files c.move_to.ensures.places within c.file-file.ensures c.place-at.ensures (length-names files ∙ sym (length-contents files)) (c.args.self.now.named c.args.slot known)
    c.give-count.ensures.given c.give-count.ensures.end

pub returns-clause-least : goal.returns-clause-least
returns-clause-least c =
    let files = c.args.self.now.files.list.items in
    let slots = c.args.self.now.slots in
    let known : c.args.slot < length (files_of slots) = slot_within slots.list.items (λ x. x.way) (λ x. x.file) c.args.slot _ c.requires.reader in
    let named : IsNamed (names_of files) (get_or (files_of slots) c.args.slot 0) (get_or (names_of files) (get_or (files_of slots) c.args.slot 0) []) = c.args.self.now.named c.args.slot known in
    let here : file_at (mem_view c.args.self.now) c.args.slot ≡ get_or (contents_of files) (get_or (files_of slots) c.args.slot 0) [] =
    file_here c.args.self.now.faults_in c.args.self.now.faults_out (ways_of slots) (is_calm c.args.self.now.calls.fails.items c.args.self.now.calls.next) (names_of files) (contents_of files) (files_of slots) (places_of slots) c.args.slot (length-names files ∙ sym (length-contents files)) named in
    c.give-count.ensures.count
    ∙ ap (λ a. min (min c.args.self.now.piece (length c.args.buf.now)) (length (drop a (get_or (contents_of files) c.file-file.result [])))) c.place-at.ensures
    ∙ ap (λ l. min (min c.args.self.now.piece (length c.args.buf.now)) (length (drop (get_or (places_of slots) c.args.slot 0) l))) (ap (λ f. get_or (contents_of files) f []) c.file-file.ensures ∙ sym here)
