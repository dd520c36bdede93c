use Rattle.std.proofs.Common.{◌≡◌, true, drop}
use Rattle.std.specs.List.{list_all}
use Rattle.capture_core.specs.Numerals.{is_digit, number, number_after}
use Rattle.capture_core.proofs.digits.short_number.Given as goal

abbrev pub invariant-digits : goal.invariant-digits
invariant-digits l = record {
  rest : number_after l.number (drop l.digit-index l.digits) ≡ number l.digits;
  digits : list_all is_digit (drop l.digit-index l.digits) ≡ true;
}
