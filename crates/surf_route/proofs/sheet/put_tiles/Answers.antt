use Rattle.surf_route.proofs.Lines.{map_more}
use Rattle.surf_route.proofs.sheet.put_tiles.Goals as goal

pub loop-column-preserved : goal.loop-column-preserved
loop-column-preserved c = map_more _ _ _ _ _ _ c.in_ok-put_tile.ensures c.loop-column.invariant c.tile.ensures
