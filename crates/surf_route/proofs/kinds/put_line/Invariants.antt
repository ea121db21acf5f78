use Rattle.std.proofs.Common.{◌≡◌, ◌+◌, ◌*◌, get_or, []}
use Rattle.surf_tiles.specs.Tiles.{sites_of}
use Rattle.surf_route.specs.Sealing.{AreKinds, line_start}
use Rattle.surf_route.proofs.kinds.put_line.Given as goal

abbrev pub invariant-loop-column : goal.invariant-loop-column
invariant-loop-column l = record {
  so_far : AreKinds l.drawing (line_start l.drawing l.row l.y + 3 * l.column) l.kinds.items;
  line : l.line ≡ get_or (sites_of l.tile) l.y [];
}
