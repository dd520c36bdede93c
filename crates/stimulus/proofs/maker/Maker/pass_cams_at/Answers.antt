use Rattle.std.proofs.Common.{◌≡◌, inl, inr, w64, to_z, of_z, refl, sym, ◌∙◌, subst, arith}
use Rattle.std.proofs.lemmas.Int.{ints}
use mir.Syntax.{w128}
use Rattle.wheel_types.specs.declared.channel.Channel.TheVariants.{Cam1, Cam2}
use Rattle.stimulus.specs.Making.{IsMade, IsEarliest}
use Rattle.stimulus.proofs.Steps.{in_gap, cams_step, grown, grown_once, some_either}
use Rattle.stimulus.proofs.maker.Maker.pass_cams_at.Goals as goal

pub time_at-requires-clause-gap : goal.time_at-requires-clause-gap
time_at-requires-clause-gap c =
    let w = c.args.wheel.now.parts in
    let p = c.args.plan.now in
    let m = c.args.self.now in
    let made = c.requires.making.made in
    let y = to_z w64 (of_z w64 c.args.angle) in
    let same : y ≡ c.args.angle = omega (arith, ints) in
    let early : IsEarliest m y = subst (IsEarliest m) (sym same) c.requires.earliest in
    in_gap w p m y made early

pub invariant_of-instant : goal.invariant_of-instant
invariant_of-instant c =
    let w = c.args.wheel.now.parts in
    let p = c.args.plan.now in
    let m = c.args.self.now in
    let made = c.requires.making.made in
    let y = to_z w64 (of_z w64 c.args.angle) in
    let same : y ≡ c.args.angle = omega (arith, ints) in
    let early : IsEarliest m y = subst (IsEarliest m) (sym same) c.requires.earliest in
    record { some_edge = some_either c.pass_at.result c.pass_at-2.result (elim early.one [ inl e ↦ inl (c.pass_at.ensures.there e) | inr e ↦ inr (c.pass_at-2.ensures.there e) ]) }

pub refuse_many-requires-clause-made : goal.refuse_many-requires-clause-made
refuse_many-requires-clause-made c =
    let w = c.args.wheel.now.parts in
    let p = c.args.plan.now in
    let m = c.args.self.now in
    let made = c.requires.making.made in
    let y = to_z w64 (of_z w64 c.args.angle) in
    let same : y ≡ c.args.angle = omega (arith, ints) in
    let early : IsEarliest m y = subst (IsEarliest m) (sym same) c.requires.earliest in
    let time : to_z w128 (of_z w128 c.time_at.result) ≡ c.time_at.result = omega (arith, ints) in
    let is_made : IsMade w p (record { generator = m.generator; from = m.from; to = m.to; cam1 = c.pass_at.new.self; cam2 = c.pass_at-2.new.self; instants = c.push.new.self }) = record {
      from = made.from;
      to = made.to;
      next = made.next;
      generator = made.generator;
      within = made.within;
      cam1 = c.pass_at.ensures.cam;
      cam2 = c.pass_at-2.ensures.cam;
      angle = y;
      given = cams_step w p m c.pass_at.new.self.passed c.pass_at-2.new.self.passed y c.pass_at.result c.pass_at-2.result c.push.new.self.items _ c.args.wheel.now.valid made early
          c.in_ok-push.ensures.items (time ∙ c.time_at.ensures) refl refl refl c.pass_at.ensures.takes c.pass_at-2.ensures.takes c.pass_at.ensures.clear c.pass_at-2.ensures.clear;
    } in
    is_made

pub returns-clause-making : goal.returns-clause-making
returns-clause-making c =
    let w = c.args.wheel.now.parts in
    let p = c.args.plan.now in
    let m = c.args.self.now in
    let made = c.requires.making.made in
    let y = to_z w64 (of_z w64 c.args.angle) in
    let same : y ≡ c.args.angle = omega (arith, ints) in
    let early : IsEarliest m y = subst (IsEarliest m) (sym same) c.requires.earliest in
    let time : to_z w128 (of_z w128 c.time_at.result) ≡ c.time_at.result = omega (arith, ints) in
    let is_made : IsMade w p (record { generator = m.generator; from = m.from; to = m.to; cam1 = c.pass_at.new.self; cam2 = c.pass_at-2.new.self; instants = c.push.new.self }) = record {
      from = made.from;
      to = made.to;
      next = made.next;
      generator = made.generator;
      within = made.within;
      cam1 = c.pass_at.ensures.cam;
      cam2 = c.pass_at-2.ensures.cam;
      angle = y;
      given = cams_step w p m c.pass_at.new.self.passed c.pass_at-2.new.self.passed y c.pass_at.result c.pass_at-2.result c.push.new.self.items _ c.args.wheel.now.valid made early
          c.in_ok-push.ensures.items (time ∙ c.time_at.ensures) refl refl refl c.pass_at.ensures.takes c.pass_at-2.ensures.takes c.pass_at.ensures.clear c.pass_at-2.ensures.clear;
    } in
    record { made = is_made; few = c.in_ok-refuse_many.ensures.few }

pub returns-clause-more : goal.returns-clause-more
returns-clause-more c =
    let w = c.args.wheel.now.parts in
    let p = c.args.plan.now in
    let m = c.args.self.now in
    let made = c.requires.making.made in
    let y = to_z w64 (of_z w64 c.args.angle) in
    let same : y ≡ c.args.angle = omega (arith, ints) in
    let early : IsEarliest m y = subst (IsEarliest m) (sym same) c.requires.earliest in
    let a = grown w Cam1 p.seed m.cam1.passed c.pass_at.new.self.passed y c.pass_at.result c.pass_at.ensures.takes in
    let b = grown w Cam2 p.seed m.cam2.passed c.pass_at-2.new.self.passed y c.pass_at-2.result c.pass_at-2.ensures.takes in
    elim early.one [
      | inl e ↦ (let d = grown_once w Cam1 p.seed m.cam1.passed c.pass_at.new.self.passed y c.pass_at.result c.pass_at.ensures.takes (c.pass_at.ensures.there e) in omega (arith, b, d))
      | inr e ↦ (let d = grown_once w Cam2 p.seed m.cam2.passed c.pass_at-2.new.self.passed y c.pass_at-2.result c.pass_at-2.ensures.takes (c.pass_at-2.ensures.there e) in omega (arith, a, d))
    ]
