use Rattle.std.proofs.Common.{rules, arith, Some, ◌≡◌, ◌<◌, ◌≤◌, ◌+◌, ◌*◌, take, drop, length, ap, sym, ◌∙◌, slice_get, IsErr}
use Rattle.surf_base.specs.Pieces.{piece_text}
use Rattle.surf_cells.proofs.RowTexts.{row_long, row_at, cell_sent, cell_cut, row_done}
use Rattle.surf_cells.proofs.rows.print_row.Goals as goal

pub loop-x-preserved : goal.loop-x-preserved
loop-x-preserved g c =
    let w = c.args.width in
    let texts = g.C.Cells.texts c.args.cells.now in
    let row = take w (drop (c.args.y * w) texts) in
    let len : length row ≡ w = row_long w c.args.y texts c.requires.within in
    let lt : c.loop-x.x < w = search rules in
    let at : slice_get row c.loop-x.x ≡ Some (piece_text c.piece-cell.result) =
    row_at w (c.args.y * w) c.loop-x.x texts (piece_text c.piece-cell.result) lt len
    (ap (λ k. slice_get texts (k + c.loop-x.x)) (sym c.loop-x.invariant.first) ∙ c.piece-cell.ensures) in
    record {
      first = c.loop-x.invariant.first;
      sent = cell_sent w row len c.loop-x.x (piece_text c.piece-cell.result) at c.behind_name.result c.behind_name.ensures _ _ _ _ _ _ c.loop-x.invariant.sent c.in_ok-put_pieces.ensures.whole;
      later = omega (arith, c.loop-x.invariant.later, c.put_pieces.ensures.later);
    }

pub returns-in_err-put_pieces : goal.returns-in_err-put_pieces
returns-in_err-put_pieces g c =
    let w = c.args.width in
    let texts = g.C.Cells.texts c.args.cells.now in
    let row = take w (drop (c.args.y * w) texts) in
    let len : length row ≡ w = row_long w c.args.y texts c.requires.within in
    let lt : c.loop-x.x < w = search rules in
    let at : slice_get row c.loop-x.x ≡ Some (piece_text c.piece-cell.result) =
    row_at w (c.args.y * w) c.loop-x.x texts (piece_text c.piece-cell.result) lt len
    (ap (λ k. slice_get texts (k + c.loop-x.x)) (sym c.loop-x.invariant.first) ∙ c.piece-cell.ensures) in
    let failed : IsErr c.put_pieces.result = search rules in
    cell_cut w row len c.loop-x.x (piece_text c.piece-cell.result) at c.behind_name.result c.behind_name.ensures
    _ _ _ _ _ _ _ _ _ c.put_pieces.result _ (omega (arith, lt)) c.loop-x.invariant.sent c.loop-x.invariant.later failed c.from_residual.ensures.0 c.put_pieces.ensures

pub returns : goal.returns
returns g c =
    let w = c.args.width in
    let texts = g.C.Cells.texts c.args.cells.now in
    let row = take w (drop (c.args.y * w) texts) in
    let len : length row ≡ w = row_long w c.args.y texts c.requires.within in
    let ge : w ≤ c.loop-x.x = search rules in
    row_done w row c.loop-x.x _ _ _ _ _ _ len c.requires.some ge c.loop-x.invariant.sent c.loop-x.invariant.later
