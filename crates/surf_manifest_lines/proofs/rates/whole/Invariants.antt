use Rattle.std.proofs.Common.{◌≡◌, ◌≤◌, take, drop, true}
use Rattle.std.specs.List.{list_all}
use Rattle.surf_base.specs.Decimal.{value_from, is_digit}
use Rattle.surf_manifest_lines.proofs.rates.whole.Given as goal

abbrev pub invariant-loop-byte : goal.invariant-loop-byte
invariant-loop-byte l = record {
  value_is : value_from l.value (drop l.byte-index l.digits) ≡ value_from 0 l.digits;
  small : l.value ≤ 1000000;
  all_digits : list_all is_digit (take l.byte-index l.digits) ≡ true;
}
