use Rattle.std.proofs.Common.{◌≡◌, ◌-◌, drop}
use Rattle.surf_place.specs.Drawing.{input_rows, rows_of}
use Rattle.surf_route.specs.Routing.{IsSheet, gates_below}
use Rattle.surf_route.proofs.draw.put_inputs.Given as goal

abbrev pub invariant-loop-net : goal.invariant-loop-net
invariant-loop-net l = record {
  sheet : IsSheet l.drawing l.sheet;
  rest : drop l.sheet.row (rows_of l.drawing.netlist) ≡ input_rows (l.drawing.netlist.inputs - l.net) l.net (gates_below l.drawing.netlist 0);
}
