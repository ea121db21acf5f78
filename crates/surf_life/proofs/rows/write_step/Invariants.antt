use Rattle.std.proofs.Common.{◌*◌}
use Rattle.surf_auto.specs.Counts.{Counts}
use Rattle.surf_life.specs.Rows.{AreNextBelow, IsTableOf, square_of}
use Rattle.surf_life.proofs.rows.write_step.Given as goal

abbrev pub invariant-loop-y : goal.invariant-loop-y
invariant-loop-y l = (C : Counts) → IsTableOf C l.table → AreNextBelow C (square_of l.sides.wrap l.sides.width l.sides.height) l.cells l.next (l.y * l.sides.width)
