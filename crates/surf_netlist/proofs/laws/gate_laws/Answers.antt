use Rattle.surf_netlist.proofs.Costs.{equations_make}
use Rattle.surf_netlist.proofs.laws.gate_laws.Goals as goal

pub returns : goal.returns
returns c = equations_make
