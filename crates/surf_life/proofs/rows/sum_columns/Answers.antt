use Rattle.std.proofs.Common.{◌≡◌, ◌+◌, ◌<◌, length, slice_index, Some, arith}
use Rattle.surf_life.specs.Rows.{column_sum, square_of}
use Rattle.surf_life.proofs.Sums.{sums_are}
use Rattle.surf_life.proofs.rows.sum_columns.Goals as goal

pub returns : goal.returns
returns c =
    let s = c.args.sides in
    sums_are s.wrap s.width s.height c.args.cells.now c.args.y c.add_rows.new.sums c.close_sums.new.sums c.requires.some
    (λ x h.
    let wide = c.row_about-own.ensures.wide in
    let low : x < length c.row_about-own.result.now = omega arith in
    let added = c.add_rows.ensures x low in
    let above = c.row_about-above.ensures.cells x h in
    let own = c.row_about-own.ensures.cells x h in
    let below = c.row_about-below.ensures.cells x h in
    let all : slice_index c.add_rows.new.sums (x + 1) ≡ column_sum (square_of s.wrap s.width s.height) c.args.cells.now (Some x) c.args.y = omega (arith, added, above, own, below) in
    all)
    c.close_sums.ensures.first c.close_sums.ensures.last c.close_sums.ensures.kept
