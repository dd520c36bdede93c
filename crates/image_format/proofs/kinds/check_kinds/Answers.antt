use Rattle.std.proofs.Common.{arith, below_more}
use Rattle.std.proofs.lemmas.Result.{err_from_is_err_and}
use Rattle.image_layout.specs.Layout.{state_total}
use Rattle.image_layout.specs.StateRules.{kind_fault, kinds_fault}
use Rattle.image_layout.proofs.Firsts.{first_from_none, first_from_some}
use Rattle.image_format.proofs.kinds.check_kinds.Goals as goal

pub loop-i-preserved : goal.loop-i-preserved
loop-i-preserved c = below_more _ _ c.loop-i.invariant c.in_ok-check_kind.ensures

pub returns : goal.returns
unfolding kinds_fault
returns c = first_from_none 0 (state_total c.args.bytes.now) (kind_fault c.args.bytes.now) (λ k from to. c.loop-i.invariant k (omega arith))

pub returns-in_err-check_kind : goal.returns-in_err-check_kind
unfolding kinds_fault
returns-in_err-check_kind c =
    let p = err_from_is_err_and c.from_residual.result c.from_residual.ensures.1 in
    rw (p.1, p.2) (first_from_some 0 (state_total c.args.bytes.now) c.loop-i.i (kind_fault c.args.bytes.now) c.in_err-check_kind.field-0.0 (omega arith) (omega arith) (λ j from to. c.loop-i.invariant j to) c.in_err-check_kind.ensures)
