use Rattle.std.proofs.Common.{◌≡◌, ◌+◌, ◌<◌, ◌^◌, ◌++◌, map, sum, drop, vec_len}
use Rattle.surf_logic.specs.Equations.{equation_cost}
use Rattle.surf_netlist.specs.Circuits.{gates_from, nets_from}
use Rattle.surf_netlist.specs.Making.{net_at}
use Rattle.surf_netlist.proofs.Tables.{AllAre}
use Rattle.surf_netlist.proofs.gate_list.GateList.add_all.Given as goal

abbrev pub invariant-loop-equation : goal.invariant-loop-equation
invariant-loop-equation l = record {
  same : l.self.inputs ≡ l.initial.self.inputs;
  are : AllAre l.self.inputs l.self.gates.items l.nets (drop l.equation-index l.equations) (l.initial.self.gates.items ++ gates_from (l.initial.self.inputs + vec_len l.initial.self.gates) (net_at l.initial.nets) l.equations) (nets_from (l.initial.self.inputs + vec_len l.initial.self.gates) (net_at l.initial.nets) l.equations);
  room : l.self.inputs + vec_len l.self.gates + sum (map equation_cost (drop l.equation-index l.equations)) < 2 ^ 32;
}
