use Rattle.std.proofs.Common.{◌≡◌, subst, arith}
use Rattle.image_layout.specs.Layout.{row_width}
use Rattle.image_audit.specs.Walks.{AddsRowTo}
use Rattle.image_audit.proofs.Found.{one_added}
use Rattle.image_audit.proofs.reach.add_row.Goals as goal

pub loop-column-preserved : goal.loop-column-preserved
loop-column-preserved c = one_added c.args.view.now.bytes.now c.args.q c.loop-column.column c.entry.result c.args.found.now.keys c.loop-column.found.keys c.add.new.found.keys c.entry.ensures.entry c.in_ok-add.ensures c.loop-column.invariant

pub returns : goal.returns
returns c =
    let b = c.args.view.now.bytes.now in
    let all : c.loop-column.column ≡ row_width b = omega arith in
    subst (λ n. AddsRowTo b c.args.q n c.args.found.now.keys c.loop-column.found.keys) all c.loop-column.invariant
