use Rattle.std.proofs.Common.{◌≡◌, ◌<◌, ◌≤◌, ◌^◌, ℤ, w64, to_z, of_z, refl, sym, ◌∙◌, ap, subst, arith}
use Rattle.std.proofs.lemmas.Int.{ints}
use Rattle.std.specs.Prelude.{Some, unsigned_abs}
use Rattle.wheel_types.specs.declared.channel.Channel.TheVariants.{Cam1, Cam2}
use Rattle.stimulus.specs.CamsOf.{Takes}
use Rattle.stimulus.specs.Gaps.{crank_angle}
use Rattle.stimulus.specs.Cranks.{gap_generator}
use Rattle.stimulus.specs.Making.{IsMade}
use Rattle.stimulus.proofs.Steps.{signed, first_step}
use Rattle.stimulus.proofs.maker.Maker.begin.Goals as goal

back : (x : ℤ) → unsigned_abs x ≤ 2 ^ 57 → to_z w64 (of_z w64 x) ≡ x
back x h = omega (arith, ints, h)

pub refuse_many-requires-clause-made : goal.refuse_many-requires-clause-made
refuse_many-requires-clause-made c =
    let w = c.args.wheel.now.parts in
    let p = c.args.plan.now in
    let e = c.first_crank_edge-from.result in
    let y = to_z w64 (of_z w64 e.angle) in
    let same : y ≡ e.angle = back e.angle c.first_crank_edge-from.ensures.edge.small in
    let none = c.first_crank_edge-from.ensures.first in
    let zero1 = c.first_cam-cam1.ensures.none_passed in
    let zero2 = c.first_cam-cam2.ensures.none_passed in
    let is_made : IsMade w p (record { generator = c.next_crank_edge.new.generator; from = e; to = c.in_ok-to.to; cam1 = c.pass_at.new.self; cam2 = c.pass_at-2.new.self; instants = c.push.new.self }) = record {
      from = c.first_crank_edge-from.ensures.edge;
      to = c.in_ok-to.ensures.edge;
      next = c.in_ok-to.ensures.next;
      generator = c.in_ok-to.ensures.after ∙ ap (gap_generator p.seed) (sym c.in_ok-to.ensures.next);
      within = subst (λ n. n < p.gaps) (sym none) c.requires.some;
      cam1 = c.pass_at.ensures.cam;
      cam2 = c.pass_at-2.ensures.cam;
      angle = crank_angle w p.seed e.number;
      given = first_step w p.seed c.pass_at.new.self.passed c.pass_at-2.new.self.passed y e c.pass_at.result c.pass_at-2.result c.push.new.self.items c.new-instants.result.items _ c.args.wheel.now.valid
          c.first_crank_edge-from.ensures.edge none same c.in_ok-push.ensures.items c.new-instants.ensures.items (signed w p.seed e c.first_crank_edge-from.ensures.edge) (ap Some c.polarity.ensures) refl refl
          (subst (λ n. Takes w Cam1 p.seed n y c.pass_at.result c.pass_at.new.self.passed) zero1 c.pass_at.ensures.takes)
          (subst (λ n. Takes w Cam2 p.seed n y c.pass_at-2.result c.pass_at-2.new.self.passed) zero2 c.pass_at-2.ensures.takes)
          c.pass_at.ensures.clear c.pass_at-2.ensures.clear;
    } in
    is_made

pub returns-clause-making : goal.returns-clause-making
returns-clause-making c =
    let w = c.args.wheel.now.parts in
    let p = c.args.plan.now in
    let e = c.first_crank_edge-from.result in
    let y = to_z w64 (of_z w64 e.angle) in
    let same : y ≡ e.angle = back e.angle c.first_crank_edge-from.ensures.edge.small in
    let none = c.first_crank_edge-from.ensures.first in
    let zero1 = c.first_cam-cam1.ensures.none_passed in
    let zero2 = c.first_cam-cam2.ensures.none_passed in
    let is_made : IsMade w p (record { generator = c.next_crank_edge.new.generator; from = e; to = c.in_ok-to.to; cam1 = c.pass_at.new.self; cam2 = c.pass_at-2.new.self; instants = c.push.new.self }) = record {
      from = c.first_crank_edge-from.ensures.edge;
      to = c.in_ok-to.ensures.edge;
      next = c.in_ok-to.ensures.next;
      generator = c.in_ok-to.ensures.after ∙ ap (gap_generator p.seed) (sym c.in_ok-to.ensures.next);
      within = subst (λ n. n < p.gaps) (sym none) c.requires.some;
      cam1 = c.pass_at.ensures.cam;
      cam2 = c.pass_at-2.ensures.cam;
      angle = crank_angle w p.seed e.number;
      given = first_step w p.seed c.pass_at.new.self.passed c.pass_at-2.new.self.passed y e c.pass_at.result c.pass_at-2.result c.push.new.self.items c.new-instants.result.items _ c.args.wheel.now.valid
          c.first_crank_edge-from.ensures.edge none same c.in_ok-push.ensures.items c.new-instants.ensures.items (signed w p.seed e c.first_crank_edge-from.ensures.edge) (ap Some c.polarity.ensures) refl refl
          (subst (λ n. Takes w Cam1 p.seed n y c.pass_at.result c.pass_at.new.self.passed) zero1 c.pass_at.ensures.takes)
          (subst (λ n. Takes w Cam2 p.seed n y c.pass_at-2.result c.pass_at-2.new.self.passed) zero2 c.pass_at-2.ensures.takes)
          c.pass_at.ensures.clear c.pass_at-2.ensures.clear;
    } in
    record { made = is_made; few = c.in_ok-refuse_many.ensures.few }
