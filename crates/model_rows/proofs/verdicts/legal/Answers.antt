use Rattle.std.proofs.Common.{sym, subst}
use Rattle.cam_ranges.specs.Places.{IsPlace}
use Rattle.model_rows.proofs.verdicts.legal.Goals as goal

pub legal-requires-clause-place : goal.legal-requires-clause-place
legal-requires-clause-place c = subst (λ w. IsPlace w c.args.from) (sym c.in-Ok.ensures.wheel) (c.is_place.ensures c.if-is_place.true)
