use Rattle.surf_lanes.proofs.OnePacking.{packed_is_one}
use Rattle.surf_lanes.proofs.laws.packing_law.Goals as goal

pub returns : goal.returns
returns c = packed_is_one
