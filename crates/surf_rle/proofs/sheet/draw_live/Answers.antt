use Rattle.std.proofs.Common.{◌≡◌, ◌+◌, ◌*◌, refl}
use Rattle.surf_rle.proofs.Covered.{over_live}
use Rattle.surf_rle.proofs.sheet.draw_live.Goals as goal

pub returns : goal.returns
returns c = λ line ps.
    let s = c.args.sheet in
    let from = (c.args.pen.row + c.from-corner.result) * s.full_width + (c.args.pen.column + c.from-corner.result) in
    let at : from ≡ (c.args.pen.row + s.corner) * s.full_width + (c.args.pen.column + s.corner) = rw c.from-corner.ensures refl in
    over_live s c.args.cells.now c.fill.new.cells c.args.pen.row c.args.pen.column c.args.count line from ps c.requires.sheet.wide c.requires.sheet.across c.requires.columns at c.fill.ensures
