use Rattle.std.proofs.Common.{◌≡◌, None, map, drop}
use Rattle.surf_netlist.specs.Gates.{signed_row}
use Rattle.surf_netlist.specs.Making.{or_all, net_at}
use Rattle.surf_netlist.proofs.gate_list.GateList.cover.Given as goal

abbrev pub invariant-loop-row : goal.invariant-loop-row
invariant-loop-row l = record {
  same : l.self.inputs ≡ l.initial.self.inputs;
  is : or_all l.self.inputs l.self.gates.items l.so_far (map (signed_row (net_at l.nets) l.inputs) (drop l.row-index l.rows)) ≡ or_all l.initial.self.inputs l.initial.self.gates.items None (map (signed_row (net_at l.nets) l.inputs) l.rows);
}
