use Rattle.std.proofs.Common.{◌≡◌, ◌++◌}
use Rattle.surf_demo.specs.Adders.{one_bits}
use Rattle.surf_demo.proofs.adder.put_one.Given as goal

abbrev pub invariant-loop-i : goal.invariant-loop-i
invariant-loop-i l = l.bits.items ≡ l.initial.bits.items ++ one_bits l.i
