use Rattle.surf_manifest.proofs.Good.{gives_well_formed}
use Rattle.surf_manifest.proofs.laws.read_is_well_formed.Goals as goal

pub returns : goal.returns
returns c = gives_well_formed
