use Rattle.std.proofs.Common.{refl, sym, ◌∙◌, rules}
use Rattle.capture_core.proofs.Instants.{same_time}
use Rattle.csv_capture.proofs.Keeping.{begun}
use Rattle.csv_capture.proofs.rows.Rows.go_to.Goals as goal

pub returns-in_default-clause-keeps : goal.returns-in_default-clause-keeps
returns-in_default-clause-keeps c = λ watch told k.
    begun watch told c.args.time _ c.args.self.now _ (same_time c.args.time (search rules)) k (sym c.last_time.ensures ∙ c.in_default.is) c.open.ensures.stands c.open.ensures.watch refl
