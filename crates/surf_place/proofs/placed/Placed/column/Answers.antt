use Rattle.std.proofs.Common.{◌<◌, sym, subst, arith}
use Rattle.surf_tiles.specs.Netlists.{nets_of}
use Rattle.surf_place.specs.Placed.{PlacedOf}
use Rattle.surf_place.proofs.Laid.{has_column}
use Rattle.surf_place.proofs.placed.Placed.column.Goals as goal

pub lane-requires : goal.lane-requires
lane-requires c =
    let p = c.self.inside in
    let b = subst (λ (v : PlacedOf). c.args.net < nets_of v.netlist) (sym c.self.view_is) c.requires in
    (has_column p.netlist p.rows p.source.items p.last.items p.lanes c.args.net c.self.invariant b).within

pub overflow_add-result : goal.overflow_add-result
overflow_add-result c =
    let p = c.self.inside in
    let b = subst (λ (v : PlacedOf). c.args.net < nets_of v.netlist) (sym c.self.view_is) c.requires in
    let h = has_column p.netlist p.rows p.source.items p.last.items p.lanes c.args.net c.self.invariant b in
    omega (arith, h, c.lane.ensures)
