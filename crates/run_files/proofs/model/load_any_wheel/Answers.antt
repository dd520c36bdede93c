use Rattle.std.proofs.Common.{inr, subst}
use Rattle.run_ends.proofs.Loading.{stays}
use Rattle.wheel_pattern.specs.WheelFile.{HasFault}
use Rattle.run_files.proofs.model.load_any_wheel.Goals as goal

pub returns : goal.returns
returns g c = (
  stays _ _ _ (λ is. cc) c.in_ok-bytes.ensures.1.1,
  inr (
    c.in_ok-bytes.ensures.0,
    λ told. (
      c.in_ok-bytes.bytes.items,
      (
        c.in_ok-bytes.ensures.1.0 told,
        subst (λ bytes. HasFault bytes c.in-Err.fault) c.deref.ensures.value (c.in-Err.ensures.fault (λ is. let same = rw is at c.if-eq.ensures in absurd (cc))),
      ),
    ),
  ),
)
