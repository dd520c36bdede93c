use Rattle.motion_bounds.proofs.Cutting.{cut_times_serve, limits_fit}
use Rattle.motion_bounds.proofs.laws.times_fit.Goals as goal

pub returns-clause-limits : goal.returns-clause-limits
returns-clause-limits c = limits_fit

pub returns-clause-cut : goal.returns-clause-cut
returns-clause-cut c = cut_times_serve
