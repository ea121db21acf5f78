use Rattle.surf_laws.proofs.ReadInStep.{are_read_in_step}
use Rattle.surf_laws.proofs.laws.cells_are_observed.Goals as goal

pub returns : goal.returns
returns c = are_read_in_step
