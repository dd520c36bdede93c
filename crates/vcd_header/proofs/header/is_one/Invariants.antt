use Rattle.std.proofs.Common.{◌≡◌, drop, cond}
use Rattle.vcd_header.specs.Headers.{is_one, is_empty}
use Rattle.vcd_header.proofs.header.is_one.Given as goal

abbrev pub invariant-digits : goal.invariant-digits
invariant-digits l = is_one l.fn.digits ≡ cond l.started (is_empty (drop l.digit-index l.digits)) (is_one (drop l.digit-index l.digits))
