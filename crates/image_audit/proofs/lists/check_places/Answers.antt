use Rattle.std.proofs.Common.{arith}
use Rattle.image_layout.specs.Layout.{place_total}
use Rattle.image_layout.specs.Fields.{place_at}
use Rattle.position_nfa.specs.Views.{alphabet}
use Rattle.table_images.specs.Images.{table_of}
use Rattle.image_audit.proofs.Listed.{same_lists}
use Rattle.image_audit.proofs.Sizes.{length-listed}
use Rattle.image_audit.proofs.lists.check_places.Goals as goal

pub returns-clause-same : goal.returns-clause-same
returns-clause-same c =
    let b = c.args.view.now.bytes.now in
    let size = length-listed (place_at b) (place_total b) in
    same_lists (table_of b).places (alphabet c.args.nfa.now).places c.loop-at.at (omega (arith, size)) (omega arith) (λ k lt. c.loop-at.invariant k lt)
