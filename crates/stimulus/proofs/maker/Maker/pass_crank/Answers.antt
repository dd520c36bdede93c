use Rattle.std.proofs.Common.{◌≡◌, ◌<◌, ◌≤◌, ◌^◌, ℤ, w64, to_z, of_z, refl, sym, ◌∙◌, ap, subst, arith}
use Rattle.std.proofs.lemmas.Int.{ints}
use Rattle.std.specs.Prelude.{Some, unsigned_abs}
use Rattle.stimulus.specs.Gaps.{crank_angle}
use Rattle.stimulus.specs.Cranks.{gap_generator}
use Rattle.stimulus.specs.Making.{IsMade}
use Rattle.stimulus.proofs.Steps.{signed, crank_step}
use Rattle.stimulus.proofs.maker.Maker.pass_crank.Goals as goal

back : (x : ℤ) → unsigned_abs x ≤ 2 ^ 57 → to_z w64 (of_z w64 x) ≡ x
back x h = omega (arith, ints, h)

pub refuse_many-requires-clause-made : goal.refuse_many-requires-clause-made
refuse_many-requires-clause-made c =
    let w = c.args.wheel.now.parts in
    let p = c.args.plan.now in
    let m = c.args.self.now in
    let made = c.requires.making.made in
    let y = to_z w64 (of_z w64 m.to.angle) in
    let same : y ≡ m.to.angle = back m.to.angle made.to.small in
    let is_made : IsMade w p (record { generator = c.next_crank_edge.new.generator; from = m.to; to = c.in_ok-next.next; cam1 = c.pass_at.new.self; cam2 = c.pass_at-2.new.self; instants = c.push.new.self }) = record {
      from = made.to;
      to = c.in_ok-next.ensures.edge;
      next = c.in_ok-next.ensures.next;
      generator = c.in_ok-next.ensures.after ∙ ap (gap_generator p.seed) (sym c.in_ok-next.ensures.next);
      within = subst (λ n. n < p.gaps) (sym made.next) c.requires.not_last;
      cam1 = c.pass_at.ensures.cam;
      cam2 = c.pass_at-2.ensures.cam;
      angle = crank_angle w p.seed m.to.number;
      given = crank_step w p m c.pass_at.new.self.passed c.pass_at-2.new.self.passed y c.pass_at.result c.pass_at-2.result c.push.new.self.items _ c.args.wheel.now.valid made same
          c.in_ok-push.ensures.items (signed w p.seed m.to made.to) (ap Some c.polarity.ensures) refl refl c.pass_at.ensures.takes c.pass_at-2.ensures.takes
          c.pass_at.ensures.clear c.pass_at-2.ensures.clear;
    } in
    is_made

pub returns-clause-making : goal.returns-clause-making
returns-clause-making c =
    let w = c.args.wheel.now.parts in
    let p = c.args.plan.now in
    let m = c.args.self.now in
    let made = c.requires.making.made in
    let y = to_z w64 (of_z w64 m.to.angle) in
    let same : y ≡ m.to.angle = back m.to.angle made.to.small in
    let is_made : IsMade w p (record { generator = c.next_crank_edge.new.generator; from = m.to; to = c.in_ok-next.next; cam1 = c.pass_at.new.self; cam2 = c.pass_at-2.new.self; instants = c.push.new.self }) = record {
      from = made.to;
      to = c.in_ok-next.ensures.edge;
      next = c.in_ok-next.ensures.next;
      generator = c.in_ok-next.ensures.after ∙ ap (gap_generator p.seed) (sym c.in_ok-next.ensures.next);
      within = subst (λ n. n < p.gaps) (sym made.next) c.requires.not_last;
      cam1 = c.pass_at.ensures.cam;
      cam2 = c.pass_at-2.ensures.cam;
      angle = crank_angle w p.seed m.to.number;
      given = crank_step w p m c.pass_at.new.self.passed c.pass_at-2.new.self.passed y c.pass_at.result c.pass_at-2.result c.push.new.self.items _ c.args.wheel.now.valid made same
          c.in_ok-push.ensures.items (signed w p.seed m.to made.to) (ap Some c.polarity.ensures) refl refl c.pass_at.ensures.takes c.pass_at-2.ensures.takes
          c.pass_at.ensures.clear c.pass_at-2.ensures.clear;
    } in
    record { made = is_made; few = c.in_ok-refuse_many.ensures.few }

pub returns-clause-next : goal.returns-clause-next
returns-clause-next c = c.requires.making.made.next
