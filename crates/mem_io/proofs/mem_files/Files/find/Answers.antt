use Rattle.std.proofs.Common.{◌≡◌, ◌∙◌, ap, sym, arith, nat_eq, get_or, [], ◌≡◌, ◌<◌, length, string_bytes, false}
use Rattle.std.specs.Cmp.Lexicographic.{pointwise}
use Rattle.mem_io.specs.Named.{names_of}
use Rattle.std.proofs.lemmas.List.{length-map}
use borrow.Author.Count.{below_more}
use Rattle.mem_io.proofs.Names.{file_in_none, name_at, same_names, length-names}
use Rattle.mem_io.proofs.mem_files.Files.find.Goals as goal

pub returns-then-eq-clause-found : goal.returns-then-eq-clause-found
returns-then-eq-clause-found c =
    let text = name_at c.args.self.now.list.items c.loop-i.i c.index.result.now (omega arith) ∙ ap (λ f. string_bytes f.0) (sym c.index.ensures) ∙ sym c.as_str.ensures.value in
    record {
      within = simp length-map (omega arith);
      here = text ∙ same_names _ _ (sym c.if-eq.ensures);
      before = c.loop-i.invariant;
    }

pub loop-i-preserved : goal.loop-i-preserved
loop-i-preserved c =
    let text = name_at c.args.self.now.list.items c.loop-i.i c.index.result.now (omega arith) ∙ ap (λ f. string_bytes f.0) (sym c.index.ensures) ∙ sym c.as_str.ensures.value in
    below_more (λ k. pointwise nat_eq (get_or (names_of c.args.self.now.list.items) k []) c.args.name.now ≡ false) _ c.loop-i.invariant (ap (λ n. pointwise nat_eq n c.args.name.now) text ∙ sym c.if-eq.ensures)

pub returns-clause-none : goal.returns-clause-none
returns-clause-none c = file_in_none _ _ _ (λ k h. c.loop-i.invariant k
    (let same : length (names_of c.args.self.now.list.items) ≡ length c.args.self.now.list.items = length-names c.args.self.now.list.items in
    let l : k < length (names_of c.args.self.now.list.items) = h in omega arith))

pub returns-clause-absent : goal.returns-clause-absent
returns-clause-absent c = record {
  none = λ k h. c.loop-i.invariant k
      (let same : length (names_of c.args.self.now.list.items) ≡ length c.args.self.now.list.items = length-names c.args.self.now.list.items in
      let l : k < length (names_of c.args.self.now.list.items) = h in omega arith);
}
