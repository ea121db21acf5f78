use Rattle.std.proofs.Common.{◌<◌, ◌∙◌, subst, refl}
use Rattle.surf_tiles.specs.declared.tile.Tile.TheVariants.{Input as Inputs}
use Rattle.surf_place.specs.Drawing.{Source}
use Rattle.surf_route.proofs.Drawing.{head_next, input_next, rest_one}
use Rattle.surf_route.proofs.draw.put_inputs.Goals as goal

pub put-requires-clause-line : goal.put-requires-clause-line
put-requires-clause-line c =
    let N = c.args.drawing.now.netlist in
    let net = c.loop-net.net in
    head_next N c.loop-net.sheet.row (Source net Inputs) _ _ (c.loop-net.invariant.rest ∙ input_next N net (subst (λ n. net < n) c.requires.all c.loop-net-test.true)) refl

pub loop-net-preserved : goal.loop-net-preserved
loop-net-preserved c =
    let N = c.args.drawing.now.netlist in
    let net = c.loop-net.net in
    record {
      sheet = c.in_ok-put.ensures.sheet;
      rest = rest_one N c.loop-net.sheet.row _ (Source net Inputs) _ (c.loop-net.invariant.rest ∙ input_next N net (subst (λ n. net < n) c.requires.all c.loop-net-test.true)) c.in_ok-put.ensures.row;
    }
