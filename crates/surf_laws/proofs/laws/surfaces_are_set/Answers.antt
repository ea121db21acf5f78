use Rattle.surf_laws.proofs.Carried.{surfaces_are_set}
use Rattle.surf_laws.proofs.laws.surfaces_are_set.Goals as goal

pub returns : goal.returns
returns c = surfaces_are_set
