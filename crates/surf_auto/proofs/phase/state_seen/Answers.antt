use Rattle.std.proofs.Common.{arith, length, sym}
use Rattle.surf_auto.proofs.Cells.{seen_place}
use Rattle.surf_auto.proofs.phase.state_seen.Goals as goal

pub bounds-cells-next : goal.bounds-cells-next
bounds-cells-next g c =
    seen_place (g.G.Lattice.grid c.args.grid.now) c.args.site c.args.direction c.in-Some.next c.requires.inside (sym c.in-Some.ensures) c.width.result (length c.args.cells.now) c.width.ensures.side c.requires.size

pub offset_bounds-cells-next : goal.offset_bounds-cells-next
offset_bounds-cells-next g c =
    let b = seen_place (g.G.Lattice.grid c.args.grid.now) c.args.site c.args.direction c.in-Some.next c.requires.inside (sym c.in-Some.ensures) c.width.result (length c.args.cells.now) c.width.ensures.side c.requires.size in
    let few = c.requires.few in
    omega arith
