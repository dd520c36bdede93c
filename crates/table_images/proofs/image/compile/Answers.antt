use Rattle.std.proofs.lemmas.Result.{err_from_is_err_and}
use Rattle.position_nfa.specs.Views.{alphabet}
use Rattle.subset_build.specs.Views.{table_states}
use Rattle.table_images.proofs.BodySize.{body_short}
use Rattle.table_images.proofs.Images.{small_by, image_by}
use Rattle.table_images.proofs.image.compile.Goals as goal

pub returns-in_err-table-clause-large : goal.returns-in_err-table-clause-large
returns-in_err-table-clause-large c =
    let p = err_from_is_err_and c.from_residual-in_err-table.result c.from_residual-in_err-table.ensures.1 in
    rw (p.1, p.2) (λ l e. (c.in_err-table.ensures.large l e, c.in_ok-nfa.ensures.not_more))

pub returns-in_err-parts-clause-large : goal.returns-in_err-parts-clause-large
returns-in_err-parts-clause-large c =
    let p = err_from_is_err_and c.from_residual-in_err-parts.result c.from_residual-in_err-parts.ensures.1 in
    rw (p.1, p.2) (λ l e. absurd (cc))

pub write_image-requires-clause-small : goal.write_image-requires-clause-small
write_image-requires-clause-small c =
    let nfa = c.in_ok-nfa.nfa in
    small_by c.args.wheel.now.parts (alphabet nfa) c.args.limit (table_states c.in_ok-table.table) c.in_ok-parts.parts c.in_ok-table.ensures.table c.in_ok-parts.ensures.parts c.args.wheel.now.valid nfa.tables.few nfa.tables.few_times nfa.tables.few_ratios

pub write_image-requires-clause-short : goal.write_image-requires-clause-short
write_image-requires-clause-short c =
    let nfa = c.in_ok-nfa.nfa in
    body_short c.in_ok-parts.parts (small_by c.args.wheel.now.parts (alphabet nfa) c.args.limit (table_states c.in_ok-table.table) c.in_ok-parts.parts c.in_ok-table.ensures.table c.in_ok-parts.ensures.parts c.args.wheel.now.valid nfa.tables.few nfa.tables.few_times nfa.tables.few_ratios)

pub returns-in_err-write_image-clause-large : goal.returns-in_err-write_image-clause-large
returns-in_err-write_image-clause-large c =
    let p = err_from_is_err_and c.from_residual-in_err-write_image.result c.from_residual-in_err-write_image.ensures.1 in
    rw (p.1, p.2) (λ l e. absurd (cc))

pub returns-clause-image : goal.returns-clause-image
returns-clause-image c =
    let nfa = c.in_ok-nfa.nfa in
    image_by c.args.wheel.now.parts (alphabet nfa) c.args.limit (table_states c.in_ok-table.table) c.in_ok-parts.parts c.in_ok-write_image.field-0.items c.in_ok-table.ensures.table c.in_ok-parts.ensures.parts c.args.wheel.now.valid nfa.tables.few nfa.tables.few_times nfa.tables.few_ratios c.in_ok-write_image.ensures
