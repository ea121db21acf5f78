use Rattle.surf_laws.proofs.CircuitsRound.{circuits_are_carried_round}
use Rattle.surf_laws.proofs.laws.circuits_are_carried_round.Goals as goal

pub returns : goal.returns
returns c = circuits_are_carried_round
