use Rattle.std.proofs.Common.{arith, rules}
use Rattle.plain_motion.proofs.Images.{somewhere}
use Rattle.certificate_checker.proofs.Fronts.{rise_more, rising_ascends, less_anyhow}
use Rattle.certificate_checker.proofs.lines.ascends.Goals as goal
use Rattle.certificate_checker.proofs.lines.ascends.Goals.{else-k-gt0-via-then-k-gt0+else-not-is_less, else-k-gt0-via-else-k-gt0}

pub loop-k-preserved : goal.loop-k-preserved
loop-k-preserved c = rise_more c.args.places.now c.loop-k.k c.loop-k.invariant (λ d some.
    elim c.else-k-gt0.branch [
      | else-k-gt0-via-then-k-gt0+else-not-is_less w ↦ less_anyhow c.args.places.now c.loop-k.k somewhere d (omega (arith, some)) c.loop-k-test.true (w.is_less.ensures.0 w.if-not-is_less.false)
      | else-k-gt0-via-else-k-gt0 w ↦ absurd (omega (arith, w.if-k-gt0, some))
    ])

pub returns : goal.returns
returns c = (λ t. rising_ascends c.args.places.now c.loop-k.k c.loop-k-test.false c.loop-k.invariant, λ h. search rules)
