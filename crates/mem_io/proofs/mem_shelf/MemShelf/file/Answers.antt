use Rattle.std.proofs.Common.{◌∙◌, ap, sym, Some}
use Rattle.mem_io.specs.Named.{names_of, contents_of}
use Rattle.mem_io.proofs.Names.{file_named, length-names, length-contents}
use Rattle.mem_io.proofs.mem_shelf.MemShelf.file.Goals as goal

pub returns-in-Some : goal.returns-in-Some
returns-in-Some c =
    let files = c.args.self.now.files.list.items in
    file_named (names_of files) (contents_of files) c.in-Some.file c.args.name.now (length-names files ∙ sym (length-contents files)) c.in-Some.ensures.found ∙ ap Some (sym c.bytes.ensures)
