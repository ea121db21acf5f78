use Rattle.std.proofs.Common.{subst}
use Rattle.surf_place.specs.Placed.{IsPlaced}
use Rattle.surf_place.proofs.Laid.{placed}
use Rattle.surf_place.proofs.placed.Placed.netlist.Goals as goal

pub returns-clause-placed : goal.returns-clause-placed
returns-clause-placed c = let p = c.self.inside in subst IsPlaced c.self.view_is (placed p.netlist p.rows p.source.items p.last.items p.lanes c.self.invariant)
