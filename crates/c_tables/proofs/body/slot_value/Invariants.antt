use Rattle.std.proofs.Common.{◌≡◌, ◌+◌, ◌*◌, ◌-◌, ◌≤◌, true, drop}
use Rattle.std.specs.List.{fold, list_all}
use Rattle.c_tables.specs.Tables.{number}
use Rattle.c_tables.specs.Tokens.{is_digit}
use Rattle.c_tables.proofs.body.slot_value.Given as goal

abbrev pub invariant-digits : goal.invariant-digits
invariant-digits l = record {
  rest : fold (λ n digit. n * 10 + (digit - 48)) l.value (drop l.digit-index l.digits) ≡ number l.digits;
  digits : list_all is_digit (drop l.digit-index l.digits) ≡ true;
  low : l.value ≤ 7;
}
