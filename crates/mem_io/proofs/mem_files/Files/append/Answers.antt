use Rattle.std.proofs.Common.{ap, string_bytes, ◌∙◌, sym, ◌++◌, set}
use Rattle.std.proofs.Math.Seq.{map-set_same}
use Rattle.std.proofs.lemmas.List.{map-set}
use Rattle.mem_io.specs.Named.{contents_of}
use Rattle.mem_io.proofs.Names.{content_at, on_err}
use Rattle.mem_io.proofs.mem_files.Files.append.Goals as goal

pub returns-in_err-extend_from_slice-clause-names : goal.returns-in_err-extend_from_slice-clause-names
returns-in_err-extend_from_slice-clause-names c = map-set_same (λ f. string_bytes f.0) _ _ _ c.index_mut.result.now (ap (λ f. string_bytes f.0) c.index_mut.ensures.value)

pub returns-in_err-extend_from_slice-clause-err : goal.returns-in_err-extend_from_slice-clause-err
returns-in_err-extend_from_slice-clause-err c = on_err _ (map-set_same (λ f. f.1.items) _ _ _ c.index_mut.result.now (c.in_err-extend_from_slice.ensures.items ∙ ap (λ f. f.1.items) c.index_mut.ensures.value))

pub returns-clause-names : goal.returns-clause-names
returns-clause-names c = map-set_same (λ f. string_bytes f.0) _ _ _ c.index_mut.result.now (ap (λ f. string_bytes f.0) c.index_mut.ensures.value)

pub returns-clause-ok : goal.returns-clause-ok
returns-clause-ok c =
    map-set (λ f. f.1.items) _ _ _ ∙ ap (set (contents_of c.args.self.now.list.items) c.args.file)
    (c.in_ok-extend_from_slice.ensures.items ∙ ap (λ l. l ++ c.args.piece.now) (ap (λ f. f.1.items) c.index_mut.ensures.value ∙ sym (content_at c.args.self.now.list.items c.args.file c.index_mut.result.now c.requires)))
