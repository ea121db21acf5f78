use Rattle.std.proofs.Common.{◌≡◌, ◌++◌}
use Rattle.surf_route.specs.Routing.{line_tiles}
use Rattle.surf_route.proofs.sheet.put_tiles.Given as goal

abbrev pub invariant-loop-column : goal.invariant-loop-column
invariant-loop-column l = l.tiles.items ≡ l.initial.tiles.items ++ line_tiles l.line l.lane l.table l.below l.column
