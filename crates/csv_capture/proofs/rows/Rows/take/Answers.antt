use Rattle.std.proofs.Common.{refl, rules}
use Rattle.capture_core.proofs.Instants.{same_time}
use Rattle.csv_capture.proofs.Keeping.{taken}
use Rattle.csv_capture.proofs.rows.Rows.take.Goals as goal

pub returns : goal.returns
returns c = λ watch told k.
    taken watch told c.args.row _ c.go_to.new.self _ (same_time c.args.row.time (search rules)) (c.in_ok-go_to.ensures.keeps watch told k) c.in_ok-go_to.ensures.is_open c.give_all.ensures.stands c.give_all.ensures.watch refl
