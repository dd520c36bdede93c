use Rattle.image_audit.specs.Walks.{AddsRowTo}
use Rattle.image_audit.proofs.reach.add_row.Given as goal

abbrev pub invariant-loop-column : goal.invariant-loop-column
invariant-loop-column l = AddsRowTo l.view.bytes.now l.q l.column l.fn.found.keys l.found.keys
