use Rattle.surf_circuit.proofs.Setting.{circuits_are_set}
use Rattle.surf_circuit.proofs.laws.circuits_are_set.Goals as goal

pub returns : goal.returns
returns c = circuits_are_set
