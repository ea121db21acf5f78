use Rattle.surf_route.specs.Sealing.{AreKinds, line_start}
use Rattle.surf_route.proofs.kinds.all_kinds.Given as goal

abbrev pub invariant-loop-row : goal.invariant-loop-row
invariant-loop-row l = AreKinds l.drawing (line_start l.drawing l.row 0) l.kinds.items
