use Rattle.std.proofs.Common.{◌≡◌, drop, map}
use Rattle.surf_place.specs.Drawing.{Ends, rows_of}
use Rattle.surf_route.specs.Routing.{IsSheet}
use Rattle.surf_route.proofs.draw.put_outputs.Given as goal

abbrev pub invariant-loop-net : goal.invariant-loop-net
invariant-loop-net l = record {
  sheet : IsSheet l.drawing l.sheet;
  rest : drop l.sheet.row (rows_of l.drawing.netlist) ≡ map Ends (drop l.net-index l.outputs);
}
