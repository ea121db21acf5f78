use Rattle.surf_route.proofs.Drawing.{all_tiles}
use Rattle.surf_route.proofs.draw.drawn_tiles.Goals as goal

pub returns : goal.returns
returns c = all_tiles c.args.drawing.now c.put_outputs.new.sheet c.in_ok-put_outputs.ensures.sheet c.in_ok-put_outputs.ensures.rest
