use Rattle.std.proofs.Common.{refl}
use Rattle.surf_tiles.specs.Reactions.{reactions}
use Rattle.surf_tiles.specs.Table.{AreListed, listed}
use Rattle.surf_tiles.proofs.laws.rule_table.Goals as goal

as_listed : AreListed
unfolding reactions listed
as_listed = refl

pub returns : goal.returns
returns c = as_listed
