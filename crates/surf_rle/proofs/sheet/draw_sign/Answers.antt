use Rattle.surf_rle.proofs.Drawn.{ended}
use Rattle.surf_rle.proofs.sheet.draw_sign.Goals as goal

pub returns-in-End-clause-drawn : goal.returns-in-End-clause-drawn
returns-in-End-clause-drawn c = ended c.args.sheet c.args.pen c.args.cells.now c.args.line c.args.sign c.in-End.is c.requires.sheet.whole
