use Rattle.image_layout.specs.Layout.{state_total, row_width}
use Rattle.image_layout.proofs.RowNumbers.{row_below, entry_fault_at}
use Rattle.image_format.proofs.rows.check_entry.Goals as goal

pub row_number-requires-clause-there : goal.row_number-requires-clause-there
row_number-requires-clause-there c = row_below c.args.q c.args.column (row_width c.args.bytes.now) c.args.sections.now.width (state_total c.args.bytes.now) c.requires.laid.sections.width c.requires.there c.requires.column

pub returns : goal.returns
returns c =
    let told = rw c.is_entry.ensures at c.range.ensures in
    let told2 = rw c.row_number.ensures at told in
    let told3 = rw c.requires.laid.sections.width at told2 in
    rw (entry_fault_at c.args.bytes.now c.args.q c.args.column c.requires.column) told3
