use Rattle.std.proofs.Common.{◌≡◌, drop}
use Rattle.surf_place.specs.Drawing.{rows_of}
use Rattle.surf_route.specs.Routing.{IsSheet, gates_below}
use Rattle.surf_route.proofs.draw.put_gates.Given as goal

abbrev pub invariant-loop-j : goal.invariant-loop-j
invariant-loop-j l = record {
  sheet : IsSheet l.drawing l.sheet;
  rest : drop l.sheet.row (rows_of l.drawing.netlist) ≡ gates_below l.drawing.netlist l.j;
}
