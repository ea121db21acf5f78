use Rattle.std.proofs.Common.{◌∙◌, get_or, refl}
use Rattle.surf_place.specs.Drawing.{Ends}
use Rattle.surf_route.proofs.Drawing.{head_next, output_next, rest_one}
use Rattle.surf_route.proofs.draw.put_outputs.Goals as goal

pub put-requires-clause-line : goal.put-requires-clause-line
put-requires-clause-line c =
    let k = c.loop-net.net-index in
    head_next c.args.drawing.now.netlist c.loop-net.sheet.row (Ends (get_or c.args.outputs.now k 0)) _ _ (c.loop-net.invariant.rest ∙ output_next c.args.outputs.now k 0 c.loop-net-test.true) refl

pub loop-net-preserved : goal.loop-net-preserved
loop-net-preserved c =
    let k = c.loop-net.net-index in
    record {
      sheet = c.in_ok-put.ensures.sheet;
      rest = rest_one c.args.drawing.now.netlist c.loop-net.sheet.row _ (Ends (get_or c.args.outputs.now k 0)) _ (c.loop-net.invariant.rest ∙ output_next c.args.outputs.now k 0 c.loop-net-test.true) c.in_ok-put.ensures.row;
    }
