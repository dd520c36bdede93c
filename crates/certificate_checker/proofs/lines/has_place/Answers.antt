use Rattle.std.proofs.Common.{◌+◌, ◌-◌, ◌/◌, ◌<◌, ℕ, length, arith, ◌∙◌, sym, subst, rules}
use Rattle.std.proofs.lemmas.Bool.{false≢true}
use Rattle.std.proofs.lemmas.List.Elements.{Contains-get_or}
use Rattle.std.specs.Prelude.{Contains}
use Rattle.plain_motion.proofs.Images.{somewhere}
use Rattle.cam_ranges.proofs.OrderedLists.{before, after, not_between}
use Rattle.certificate_checker.proofs.lines.has_place.Goals as goal

pub loop-low-preserved-then-is_less : goal.loop-low-preserved-then-is_less
loop-low-preserved-then-is_less c =
    let middle : ℕ = c.loop-low.low + (c.loop-low.high - c.loop-low.low) / 2 in
    record {
      within = omega (arith, c.loop-low.invariant.within, c.loop-low-test.true);
      between = λ m lt at. (
        (c.loop-low.invariant.between m lt at).0,
        before c.args.places.now c.args.place m middle somewhere c.requires lt (at somewhere) (c.is_less.ensures.0 c.if-is_less.true),
      );
    }

pub returns-then-is_same : goal.returns-then-is_same
returns-then-is_same c =
    let middle : ℕ = c.loop-low.low + (c.loop-low.high - c.loop-low.low) / 2 in
    let there = Contains-get_or c.args.places.now middle somewhere (omega (arith, c.loop-low.invariant.within, c.loop-low-test.true)) in
    (λ t. subst (Contains c.args.places.now) (c.is_same.ensures.0 c.if-is_same.true) there, λ h. search rules)

pub loop-low-preserved : goal.loop-low-preserved
loop-low-preserved c =
    let middle : ℕ = c.loop-low.low + (c.loop-low.high - c.loop-low.low) / 2 in
    let inside : middle < length c.args.places.now = omega (arith, c.loop-low.invariant.within, c.loop-low-test.true) in
    record {
      within = c.loop-low.invariant.within;
      between = λ m lt at. (
        after c.args.places.now c.args.place m middle somewhere c.requires inside (at somewhere) (λ h. false≢true (sym c.if-is_less.false ∙ c.is_less.ensures.1 h)) (λ e. false≢true (sym c.if-is_same.false ∙ c.is_same.ensures.1 e)),
        (c.loop-low.invariant.between m lt at).1,
      );
    }

pub returns : goal.returns
returns c = (
  λ t. absurd (false≢true t),
  λ h. absurd (not_between c.args.places.now c.args.place c.loop-low.low c.loop-low.high (omega (arith, c.loop-low-test.false)) c.loop-low.invariant.between h),
)
