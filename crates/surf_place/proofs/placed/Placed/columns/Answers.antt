use Rattle.std.proofs.Common.{arith}
use Rattle.surf_place.proofs.Laid.{columns_few}
use Rattle.surf_place.proofs.placed.Placed.columns.Goals as goal

pub overflow_add-result : goal.overflow_add-result
overflow_add-result c =
    let p = c.self.inside in
    let few = columns_few p.netlist p.rows p.source.items p.last.items p.lanes c.self.invariant in
    omega (arith, few, c.count.ensures)
