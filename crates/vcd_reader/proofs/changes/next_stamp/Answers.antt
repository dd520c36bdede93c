use Rattle.std.proofs.Common.{◌∷◌, rules}
use Rattle.vcd_reader.proofs.changes.next_stamp.Goals as goal

pub returns-clause-stands : goal.returns-clause-stands
returns-clause-stands c = λ s closed h.
    let later = c.open.ensures.stands (s ∷ closed) (c.close-closed.ensures.stands s closed h) in
    record { known = later.known; given = later.given; last = search rules; is_open = later.is_open }
