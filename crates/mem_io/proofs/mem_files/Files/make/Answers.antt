use Rattle.std.proofs.Common.{◌≡◌, ◌∙◌, ◌++◌, ◌∷◌, [], sym, subst, get_or}
use Rattle.mem_io.specs.Named.{names_of, contents_of, file_in, SlotsNamed}
use Rattle.mem_io.proofs.Names.{keeps_same, keeps_more, slots_kept, length-names, length-contents, file_emptied, file_untouched, file_last, file_more_names}
use Rattle.mem_io.proofs.mem_files.Files.make.Goals as goal

pub returns-in-Some-clause-emptied : goal.returns-in-Some-clause-emptied
returns-in-Some-clause-emptied c =
    let files = c.args.self.now.list.items in
    file_emptied (names_of files) _ (contents_of files) _ c.in-Some.file c.args.name.now (length-names files ∙ sym (length-contents files)) c.in-Some.ensures.found c.empty.ensures.names c.empty.ensures.contents

pub returns-in-Some-clause-others : goal.returns-in-Some-clause-others
returns-in-Some-clause-others c = λ n d.
    let files = c.args.self.now.list.items in
    let here : get_or (names_of files) c.in-Some.file [] ≡ c.args.name.now = c.in-Some.ensures.found.here in
    file_untouched (names_of files) _ (contents_of files) _ c.in-Some.file [] n c.empty.ensures.names c.empty.ensures.contents (λ e. d (e ∙ here))

pub returns-clause-emptied : goal.returns-clause-emptied
returns-clause-emptied c =
    let files = c.args.self.now.list.items in
    let moved : file_in (names_of c.add.new.self.list.items) (contents_of c.add.new.self.list.items) c.args.name.now ≡ file_in (names_of files ++ c.args.name.now ∷ []) (contents_of files ++ [] ∷ []) c.args.name.now = cc (c.in_ok-add.ensures.names, c.in_ok-add.ensures.contents) in
    moved ∙ file_last (names_of files) (contents_of files) c.args.name.now (length-names files ∙ sym (length-contents files)) c.in_default.ensures.absent

pub returns-clause-others : goal.returns-clause-others
returns-clause-others c = λ n d.
    let files = c.args.self.now.list.items in
    let moved : file_in (names_of c.add.new.self.list.items) (contents_of c.add.new.self.list.items) n ≡ file_in (names_of files ++ c.args.name.now ∷ []) (contents_of files ++ [] ∷ []) n = cc (c.in_ok-add.ensures.names, c.in_ok-add.ensures.contents) in
    moved ∙ file_more_names (names_of files) (contents_of files) c.args.name.now n (length-names files ∙ sym (length-contents files)) d

pub returns-in-Some-clause-slots : goal.returns-in-Some-clause-slots
returns-in-Some-clause-slots c = λ slots h.
    let names = names_of c.args.self.now.list.items in
    slots_kept names (names_of c.empty.new.self.list.items) slots (keeps_same names _ c.empty.ensures.names) h

pub returns-in_err-add-clause-slots : goal.returns-in_err-add-clause-slots
returns-in_err-add-clause-slots c = λ slots h. subst (λ fs. SlotsNamed (names_of fs) slots) (sym c.in_err-add.ensures.err) h

pub returns-clause-slots : goal.returns-clause-slots
returns-clause-slots c = λ slots h.
    let names = names_of c.args.self.now.list.items in
    subst (λ ns. SlotsNamed ns slots) (sym c.in_ok-add.ensures.names) (slots_kept names (names ++ c.args.name.now ∷ []) slots (keeps_more names c.args.name.now) h)
