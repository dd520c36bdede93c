use Rattle.wheel_types.proofs.Places.{ends_after_step}
use Rattle.wheel_types.proofs.BothWays.{step_ends}
use Rattle.plain_motion.proofs.laws.ends_are_steps.Goals as goal

pub returns : goal.returns
returns c w i past q h early = (λ e. let s = ends_after_step w i past q h e in (s.0, (s.1, s.2)), λ s. step_ends w i past s.0 q h early s.1.0 s.1.1)
