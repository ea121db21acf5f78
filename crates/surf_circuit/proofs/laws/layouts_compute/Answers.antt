use Rattle.surf_circuit.proofs.Holding.{layouts_compute}
use Rattle.surf_circuit.proofs.laws.layouts_compute.Goals as goal

pub returns : goal.returns
returns c = layouts_compute
