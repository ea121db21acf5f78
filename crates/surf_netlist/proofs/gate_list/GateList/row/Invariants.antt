use Rattle.std.proofs.Common.{◌≡◌, ◌-◌, None, length, drop}
use Rattle.surf_netlist.specs.Gates.{signed_row}
use Rattle.surf_netlist.specs.Making.{and_all, net_at}
use Rattle.surf_netlist.proofs.gate_list.GateList.row.Given as goal

abbrev pub invariant-loop-i : goal.invariant-loop-i
invariant-loop-i l = record {
  same : l.self.inputs ≡ l.initial.self.inputs;
  is : and_all l.self.inputs l.self.gates.items l.so_far (signed_row (net_at l.nets) (drop l.i l.inputs) (drop l.i l.literals)) ≡ and_all l.initial.self.inputs l.initial.self.gates.items None (signed_row (net_at l.nets) l.inputs l.literals);
}

abbrev pub decreases-loop-i : goal.decreases-loop-i
decreases-loop-i l = length l.inputs - l.i
