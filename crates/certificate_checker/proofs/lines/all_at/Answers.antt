use Rattle.std.proofs.Common.{◌≡◌, rules}
use Rattle.wheel_types.specs.declared.place.Place.{Place}
use Rattle.plain_motion.proofs.Images.{somewhere}
use Rattle.certificate_checker.proofs.Fronts.{all_more, all_done}
use Rattle.certificate_checker.proofs.lines.all_at.Goals as goal

pub loop-place-preserved : goal.loop-place-preserved
loop-place-preserved c = all_more (λ (p : Place). p.j ≡ c.args.j) c.args.cover.now c.loop-place.place-index somewhere c.loop-place-test.true c.loop-place.invariant c.if-place-j.false

pub returns : goal.returns
returns c = (λ t. all_done (λ (p : Place). p.j ≡ c.args.j) c.args.cover.now c.loop-place.place-index c.loop-place-test.false c.loop-place.invariant, λ h. search rules)
