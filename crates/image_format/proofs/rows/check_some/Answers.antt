use Rattle.std.proofs.Common.{◌+◌, ap, ◌∙◌, arith}
use Rattle.image_layout.specs.Layout.{state_total, row_width}
use Rattle.image_layout.specs.StateRules.{entry_fault}
use Rattle.image_layout.proofs.RowNumbers.{row_below}
use Rattle.image_format.proofs.rows.check_some.Goals as goal

pub are_zero-requires-clause-there : goal.are_zero-requires-clause-there
are_zero-requires-clause-there c =
    let width = c.requires.laid.sections.width in
    let last = row_below c.args.q (c.args.column + 3) (row_width c.args.bytes.now) c.args.sections.now.width (state_total c.args.bytes.now) width c.requires.there (omega (arith, width, c.if-sections-column-ge4.true)) in
    omega (arith, last)

pub returns-clause-kept : goal.returns-clause-kept
returns-clause-kept c k lt = ap (λ e. entry_fault c.args.bytes.now e) (omega (arith, lt)) ∙ c.in_ok-check_entry.ensures
