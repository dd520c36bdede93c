use Rattle.std.proofs.Common.{◌∙◌}
use Rattle.csv_capture.proofs.Keeping.{given_all}
use Rattle.csv_capture.proofs.stamp.give_all.Goals as goal

pub returns-clause-stands : goal.returns-clause-stands
returns-clause-stands c = λ s closed h.
    let first = c.give.ensures.stands s closed h in
    let second = c.give-2.ensures.stands _ closed first in
    let third = c.give-3.ensures.stands _ closed second in
    record { known = third.known; given = third.given ∙ given_all c.args.given s.given; last = third.last; is_open = third.is_open }
