use Rattle.std.proofs.Common.{◌≡◌, sym, subst}
use Rattle.std.specs.Prelude.{Contains}
use Rattle.plain_motion.proofs.InOrderEnds.{sorted_ascends, same_by_test}
use Rattle.plain_motion.proofs.ends.put_places_in_order.Goals as goal

pub returns-clause-ascend : goal.returns-clause-ascend
returns-clause-ascend c = sorted_ascends c.put_in_order.new.items.items c.put_in_order.ensures.sorted

pub returns-clause-same : goal.returns-clause-same
returns-clause-same c = λ p. (
  c.put_in_order.ensures.none_added p,
  λ h.
      let there = c.put_in_order.ensures.none_lost p h in
      let same : p ≡ there.1 = same_by_test p there.1 there.4 in
      subst (Contains c.put_in_order.new.items.items) (sym same) (there.0, there.2, there.3),
)
