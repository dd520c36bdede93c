use Rattle.wheel_types.specs.Wheels.{IsWheel}
use Rattle.image_format.proofs.Wheels.{is_wheel}
use Rattle.image_format.proofs.view.View.wheel.Goals as goal

pub unreachable-requires : goal.unreachable-requires
unreachable-requires c =
    let same : IsWheel c.in_ok-parts.field-0 = rw c.in_ok-parts.ensures (is_wheel _ c.args.self.now.keeps) in
    c.in-Err.ensures.err same
