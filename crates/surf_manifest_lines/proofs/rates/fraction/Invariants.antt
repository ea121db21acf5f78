use Rattle.std.proofs.Common.{◌≡◌, ◌+◌, ◌*◌, ◌≤◌, take, drop, true}
use Rattle.std.specs.List.{list_all}
use Rattle.surf_base.specs.Decimal.{is_digit}
use Rattle.surf_manifest_lines.specs.Item.{millionths}
use Rattle.surf_manifest_lines.proofs.rates.fraction.Given as goal

abbrev pub invariant-loop-byte : goal.invariant-loop-byte
invariant-loop-byte l = record {
  value_is : l.value + millionths l.weight (drop l.byte-index l.digits) ≡ millionths 100000 l.digits;
  small : l.value + 10 * l.weight ≤ 1000000;
  all_digits : list_all is_digit (take l.byte-index l.digits) ≡ true;
}
