use Rattle.std.proofs.Common.{arith, below_more}
use Rattle.std.proofs.lemmas.Result.{err_from_is_err_and}
use Rattle.image_layout.specs.Layout.{place_total}
use Rattle.image_layout.specs.ListRules.{place_fault}
use Rattle.image_layout.proofs.Firsts.{first_from_none, first_from_some}
use Rattle.image_format.proofs.places.check_each_place.Goals as goal

pub loop-i-preserved : goal.loop-i-preserved
loop-i-preserved c = below_more _ _ c.loop-i.invariant c.in_ok-check_place.ensures

pub returns : goal.returns
returns c = first_from_none 0 (place_total c.args.bytes.now) (place_fault c.args.bytes.now) (λ k from to. c.loop-i.invariant k (omega arith))

pub returns-in_err-check_place : goal.returns-in_err-check_place
returns-in_err-check_place c =
    let p = err_from_is_err_and c.from_residual.result c.from_residual.ensures.1 in
    rw (p.1, p.2) (first_from_some 0 (place_total c.args.bytes.now) c.loop-i.i (place_fault c.args.bytes.now) c.in_err-check_place.field-0.0 (omega arith) (omega arith) (λ j from to. c.loop-i.invariant j to) c.in_err-check_place.ensures)
