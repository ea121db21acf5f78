use Rattle.std.proofs.Common.{◌≡◌, drop, length}
use Rattle.surf_netlist.specs.Making.{numbered}
use Rattle.surf_netlist.proofs.nets.number.Given as goal

abbrev pub invariant-loop-i : goal.invariant-loop-i
invariant-loop-i l = record {
  is : numbered l.nets l.i (drop l.i l.names) ≡ numbered l.initial.nets 0 l.names;
  same : length l.nets ≡ length l.initial.nets;
}
