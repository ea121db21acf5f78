use Rattle.std.proofs.Common.{rules, ◌∙◌, ◌≡◌, ◌+◌, ◌*◌, replicate}
use Rattle.surf_text.specs.Bytes.{lines_of}
use Rattle.surf_rle.specs.Rle.{Refuses}
use Rattle.surf_rle.specs.Patterns.{cells_read, marks_from}
use Rattle.surf_rle.proofs.Universes.{nothing_drawn}
use Rattle.surf_rle.proofs.Told.{refuses, rest_refuses}
use Rattle.surf_rle.proofs.cells.read_cells.Goals as goal

pub returns-in_err-draw_lines-clause-refused : goal.returns-in_err-draw_lines-clause-refused
returns-in_err-draw_lines-clause-refused c =
    let s = c.args.sheet in
    let ms = marks_from (c.args.lines.now.number + 1) (lines_of c.args.lines.now.left) in
    let n = s.full_width * s.full_height in
    let cells = c.deref_mut.result.now in
    let zeros : c.in_ok-cells.cells.items ≡ replicate n 0 = search rules in
    let told : Refuses (cells_read s ms) c.in_err-draw_lines.field-0.0 =
    refuses (cells_read s ms) c.in_err-draw_lines.field-0.0
    (rest_refuses s (record { row = 0; column = 0 }) cells ms c.in_err-draw_lines.field-0.0 c.in_err-draw_lines.ensures.refused)
    (nothing_drawn s n cells ms (c.deref_mut.ensures.value ∙ zeros) ∙ c.in_err-draw_lines.ensures.refused) in
    search rules
