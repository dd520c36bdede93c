use Rattle.std.proofs.Common.{rules}
use Rattle.std.specs.Prelude.{Contains}
use Rattle.plain_motion.proofs.Images.{somewhere}
use Rattle.certificate_checker.proofs.Fronts.{all_more, all_done}
use Rattle.certificate_checker.proofs.lines.has_all.Goals as goal

pub loop-place-preserved : goal.loop-place-preserved
loop-place-preserved c = all_more (Contains c.args.places.now) c.args.cover.now c.loop-place.place-index somewhere c.loop-place-test.true c.loop-place.invariant (c.has_place.ensures.0 (search rules))

pub returns : goal.returns
returns c = (λ t. all_done (Contains c.args.places.now) c.args.cover.now c.loop-place.place-index c.loop-place-test.false c.loop-place.invariant, λ h. search rules)
