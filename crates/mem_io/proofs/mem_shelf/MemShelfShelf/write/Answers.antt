use Rattle.std.proofs.Common.{refl, arith, ap, get_or, [], sym, ◌∙◌, ◌<◌, length, ◌≡◌, ℕ, subst, set, ◌++◌}
use Rattle.std.proofs.Math.Seq.{take-length}
use Rattle.mem_io.specs.MemShelf.{mem_view, position_in}
use Rattle.shelf_traits.specs.Shelf.{file_at}
use Rattle.mem_io.specs.Named.{names_of, contents_of}
use Rattle.mem_io.specs.Slots.{files_of, places_of}
use Rattle.mem_io.proofs.Names.{file_written, file_untouched, length-names, length-contents, slot_within, slot_item, slot_file}
use Rattle.mem_io.proofs.mem_shelf.MemShelfShelf.write.Goals as goal

pub file-file-requires : goal.file-file-requires
file-file-requires c = slot_item c.args.self.now.slots.list.items (λ x. x.way) c.args.slot _ c.requires.writer

pub append-requires : goal.append-requires
append-requires c =
    slot_file c.args.self.now.files.list.items (files_of c.args.self.now.slots) c.args.slot c.file-file.result c.args.self.now.named
    (slot_within c.args.self.now.slots.list.items (λ x. x.way) (λ x. x.file) c.args.slot _ c.requires.writer) c.file-file.ensures

pub returns-clause-keeps : goal.returns-clause-keeps
returns-clause-keeps c =
    let files = c.args.self.now.files.list.items in
    let slots = c.args.self.now.slots in
    record {
      no_less = omega arith;
      reads = refl;
      ways = refl;
      tells = refl;
      steady = c.fails_next.ensures.stays;
      calm = λ h. refl;
      place = λ h. ap (λ ns. λ (s : ℕ). position_in ns (files_of slots) (places_of slots) s) c.in_ok-append.ensures.names;
      files = λ h n d. file_untouched (names_of files) (names_of c.append.new.self.list.items) (contents_of files) (contents_of c.append.new.self.list.items) c.file-file.result _ n
          c.in_ok-append.ensures.names c.in_ok-append.ensures.ok (λ e. d (e ∙ ap (λ i. get_or (names_of files) i []) c.file-file.ensures));
    }

pub returns-clause-appends : goal.returns-clause-appends
returns-clause-appends c = λ h.
    let files = c.args.self.now.files.list.items in
    let slots = c.args.self.now.slots in
    let i : ℕ = get_or (files_of slots) c.args.slot 0 in
    let known : c.args.slot < length (files_of slots) = slot_within slots.list.items (λ x. x.way) (λ x. x.file) c.args.slot _ c.requires.writer in
    file_written (names_of files) (names_of c.append.new.self.list.items) (contents_of files) (contents_of c.append.new.self.list.items) i c.args.piece.now
    (length-names files ∙ sym (length-contents files)) (c.args.self.now.named c.args.slot known) c.in_ok-append.ensures.names
    (subst (λ j. contents_of c.append.new.self.list.items ≡ set (contents_of files) j (get_or (contents_of files) j [] ++ c.args.piece.now)) c.file-file.ensures c.in_ok-append.ensures.ok)
    ∙ ap (λ l. file_at (mem_view c.args.self.now) c.args.slot ++ l) (sym (take-length c.args.piece.now))
