use Rattle.std.proofs.Common.{sym, ◌∙◌, refl}
use Rattle.wheel_types.proofs.AnyEdge.{found, not_found, last_read, none_found}
use Rattle.wheel_types.proofs.wheel.has_crank_edge.Goals as goal

pub returns-then-is_kept_edge : goal.returns-then-is_kept_edge
returns-then-is_kept_edge c = (λ _. found c.args.parts.now c.as_slice-slots.result.now c.loop-value.value-index c.loop-value.before c.loop-value.invariant.same c.loop-value.invariant.last c.loop-value-test.true (sym c.is_kept_edge.ensures ∙ c.if-is_kept_edge.true), λ _. refl)

pub loop-value-preserved : goal.loop-value-preserved
loop-value-preserved c = record {
  same = c.loop-value.invariant.same;
  last = last_read c.args.parts.now c.as_slice-slots.result.now c.loop-value.value-index c.loop-value.invariant.same;
  none = not_found c.args.parts.now c.as_slice-slots.result.now c.loop-value.value-index c.loop-value.before c.loop-value.invariant.same c.loop-value.invariant.last (sym c.is_kept_edge.ensures ∙ c.if-is_kept_edge.false) c.loop-value.invariant.none;
}

pub returns : goal.returns
returns c = (λ t. absurd (cc), λ some. absurd (none_found c.args.parts.now c.as_slice-slots.result.now c.loop-value.value-index c.loop-value.invariant.same c.loop-value-test.false c.loop-value.auto.value-index-end c.loop-value.invariant.none some))
