use Rattle.std.proofs.Common.{rules, arith, ◌≡◌, ◌<◌, ◌*◌, ◌++◌, ◌∷◌, [], take, drop, IsErr}
use Rattle.surf_text.specs.Bytes.{spaced}
use Rattle.surf_base.proofs.EmitLemmas.{cut_part}
use Rattle.surf_cells.proofs.RowTexts.{row_lines, row_more, row_split, row_within, sent_part, rows_done}
use Rattle.surf_cells.proofs.rows.print_rows.Goals as goal

pub print_row-requires-clause-within : goal.print_row-requires-clause-within
print_row-requires-clause-within g c =
    let lt : c.loop-y.y < c.args.height = search rules in
    omega (arith, row_within c.args.width c.args.height c.loop-y.y lt, c.requires.sides)

pub loop-y-preserved : goal.loop-y-preserved
loop-y-preserved g c =
    let w = c.args.width in
    let texts = g.C.Cells.texts c.args.cells.now in
    record {
      sent =
          sent_part _ _ _ _ _ _ (row_lines w c.loop-y.y texts) (spaced (take w (drop (c.loop-y.y * w) texts)) ++ 10 ∷ []) _
          (row_more w c.loop-y.y texts) c.loop-y.invariant.sent c.in_ok-print_row.ensures.whole;
      later = omega (arith, c.loop-y.invariant.later, c.print_row.ensures.later);
    }

pub returns-in_err-print_row : goal.returns-in_err-print_row
returns-in_err-print_row g c =
    let w = c.args.width in
    let h = c.args.height in
    let texts = g.C.Cells.texts c.args.cells.now in
    let lt : c.loop-y.y < h = search rules in
    let failed : IsErr c.print_row.result = search rules in
    cut_part _ _ _ _ _ _ _ _ _ (row_lines w c.loop-y.y texts) (spaced (take w (drop (c.loop-y.y * w) texts)) ++ 10 ∷ []) _ (row_lines w h texts) c.print_row.result _
    (row_split w h c.loop-y.y texts lt) c.loop-y.invariant.sent c.loop-y.invariant.later failed c.from_residual.ensures.0 c.print_row.ensures

pub returns : goal.returns
returns g c =
    let texts = g.C.Cells.texts c.args.cells.now in
    let is : c.loop-y.y ≡ c.args.height = search rules in
    rows_done c.args.width c.args.height c.loop-y.y texts _ _ _ _ _ _ is c.loop-y.invariant.sent c.loop-y.invariant.later
