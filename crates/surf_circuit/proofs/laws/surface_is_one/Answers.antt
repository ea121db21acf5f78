use Rattle.surf_circuit.proofs.OneSurface.{surface_is_one}
use Rattle.surf_circuit.proofs.laws.surface_is_one.Goals as goal

pub returns : goal.returns
returns c = surface_is_one
