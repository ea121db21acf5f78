use Rattle.std.proofs.Common.{[]}
use Rattle.surf_route.specs.Sealed.{centre}
use Rattle.surf_route.proofs.Lines.{map_more}
use Rattle.surf_route.proofs.ends.input_sites.Goals as goal

pub loop-i-preserved : goal.loop-i-preserved
loop-i-preserved c = map_more (centre 0) [] _ _ _ c.loop-i.i c.in_ok-put.ensures c.loop-i.invariant c.centre.ensures
