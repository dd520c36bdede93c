use Rattle.std.proofs.Common.{◌<◌, length, drop, cond, Bool, sym, ◌∙◌, ap, arith}
use Rattle.std.proofs.Math.Seq.{drop-cons}
use Rattle.vcd_header.specs.Headers.{is_one, is_empty}
use Rattle.vcd_header.proofs.header.is_one.Goals as goal

pub returns-then-started : goal.returns-then-started
returns-then-started c =
    let more : c.digits.digit-index < length c.args.digits.now = omega arith in
    sym (c.digits.invariant
    ∙ ap (λ (b : Bool). cond b (is_empty (drop c.digits.digit-index c.args.digits.now)) (is_one (drop c.digits.digit-index c.args.digits.now))) c.if-started.true
    ∙ ap is_empty (drop-cons c.args.digits.now c.digits.digit-index 0 more))
