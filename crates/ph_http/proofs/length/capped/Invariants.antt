use Rattle.std.proofs.Common.{◌≡◌, ◌≤◌, drop, min, true}
use Rattle.std.specs.List.{list_all}
use Rattle.std.specs.Char.{is_ascii_digit}
use Rattle.ph_base.specs.Numbers.{decimal_from}
use Rattle.ph_http.proofs.length.capped.Given as goal

abbrev pub invariant-loop-digit : goal.invariant-loop-digit
invariant-loop-digit l = record {
  few : l.number ≤ 65537;
  number : min (decimal_from l.number (drop l.digit-index l.digits)) 65537 ≡ min (decimal_from 0 l.digits) 65537;
  digits : list_all is_ascii_digit (drop l.digit-index l.digits) ≡ true;
}
