use Rattle.surf_route.specs.Sealing.{AreKinds, line_start}
use Rattle.surf_route.proofs.kinds.put_tiles.Given as goal

abbrev pub invariant-loop-y : goal.invariant-loop-y
invariant-loop-y l = AreKinds l.drawing (line_start l.drawing l.row l.y) l.kinds.items
