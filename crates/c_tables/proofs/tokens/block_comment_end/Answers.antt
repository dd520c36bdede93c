use Rattle.std.proofs.Common.{ℕ, List, length-drop, ap, refl, sym, ◌∙◌, arith}
use Rattle.std.specs.Prelude.{codes}
use Rattle.std.proofs.lemmas.List.{take_rest}
use Rattle.c_tables.specs.Tokens.{begins}
use Rattle.c_tables.proofs.Passing.{block_comment_ended, block_comment_on}
use Rattle.c_tables.proofs.tokens.block_comment_end.Goals as goal

pub returns-then-starts_with : goal.returns-then-starts_with
returns-then-starts_with c =
    let source : List ℕ = c.args.source.now in
    let room = simp (take_rest source c.bytes.at) at (c.if-starts_with.ensures.bound refl) in
    record {
      later = omega arith;
      within = omega (arith, room, length-drop c.bytes.at source);
      left = c.bytes.invariant ∙ block_comment_ended source c.bytes.at (ap (begins (codes "*/")) (sym (take_rest source c.bytes.at)) ∙ sym c.if-starts_with.ensures.value);
    }

pub bytes-preserved : goal.bytes-preserved
bytes-preserved c =
    let source : List ℕ = c.args.source.now in
    c.bytes.invariant ∙ block_comment_on source c.bytes.at (omega arith) (ap (begins (codes "*/")) (sym (take_rest source c.bytes.at)) ∙ sym c.if-starts_with.ensures.value)
