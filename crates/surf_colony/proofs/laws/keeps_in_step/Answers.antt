use Rattle.surf_colony.proofs.Printed.{printed_synchrony}
use Rattle.surf_colony.proofs.laws.keeps_in_step.Goals as goal

pub returns : goal.returns
returns c = printed_synchrony
