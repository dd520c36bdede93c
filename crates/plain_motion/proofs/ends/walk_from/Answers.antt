use Rattle.std.proofs.Common.{◌≡◌, ℕ, ◌+◌, ◌-◌, ◌/◌, ◌<◌, length, get_or, arith, ◌∙◌, sym, subst}
use Rattle.std.proofs.lemmas.Bool.{false≢true}
use Rattle.cam_ranges.specs.Places.{IsLess}
use Rattle.cam_ranges.proofs.OrderedLists.{before, after, not_between}
use Rattle.plain_motion.specs.Ends.{starts_of}
use Rattle.plain_motion.proofs.AscendingStarts.{start_at, start_in, all_starts}
use Rattle.plain_motion.proofs.Images.{somewhere, nowhere}
use Rattle.plain_motion.proofs.InOrderEnds.{two_by_test}
use Rattle.plain_motion.proofs.ends.walk_from.Goals as goal

pub loop-low-preserved-then-is_less : goal.loop-low-preserved-then-is_less
loop-low-preserved-then-is_less c =
    let walks = c.args.walks.now in
    let middle : ℕ = c.loop-low.low + (c.loop-low.high - c.loop-low.low) / 2 in
    let inside : middle < length walks = omega (arith, c.loop-low.invariant.within, c.loop-low-test.true) in
    let less : IsLess c.args.start (get_or (starts_of walks) middle somewhere)
    = subst (IsLess c.args.start) (sym (start_at walks middle nowhere somewhere inside)) (c.is_less.ensures.0 c.if-is_less.true) in
    record {
      within = omega (arith, inside);
      between = λ h m lt at. (
        (c.loop-low.invariant.between h m lt at).0,
        before (starts_of walks) c.args.start m middle somewhere h lt (at somewhere) less,
      );
    }

pub loop-low-preserved : goal.loop-low-preserved
loop-low-preserved c =
    let walks = c.args.walks.now in
    let middle : ℕ = c.loop-low.low + (c.loop-low.high - c.loop-low.low) / 2 in
    let inside : middle < length walks = omega (arith, c.loop-low.invariant.within, c.loop-low-test.true) in
    let there = start_at walks middle nowhere somewhere inside in
    let not_less : IsLess c.args.start (get_or (starts_of walks) middle somewhere) → ⊥
    = λ k. false≢true (sym c.if-is_less.false ∙ c.is_less.ensures.1 (subst (IsLess c.args.start) there k)) in
    let not_same : get_or (starts_of walks) middle somewhere ≡ c.args.start → ⊥
    = λ e. two_by_test (get_or walks middle nowhere).start c.args.start c.eq.result c.eq.ensures c.if-eq.false (sym there ∙ e) in
    record {
      within = c.loop-low.invariant.within;
      between = λ h m lt at. (
        after (starts_of walks) c.args.start m middle somewhere h (all_starts walks middle inside) (at somewhere) not_less not_same,
        (c.loop-low.invariant.between h m lt at).1,
      );
    }

pub returns : goal.returns
returns c = λ h v k e.
    not_between (starts_of c.args.walks.now) c.args.start c.loop-low.low c.loop-low.high (omega (arith, c.loop-low-test.false)) (c.loop-low.invariant.between h)
    (start_in c.args.walks.now v c.args.start k e)
