use Rattle.std.proofs.Common.{◌≡◌, ◌+◌, ◌*◌, ◌^◌, ◌≤◌, length}
use Rattle.surf_text.specs.Bytes.{lines_of}
use Rattle.surf_rle.specs.Drawings.{IsSheet, rest_of}
use Rattle.surf_rle.specs.Patterns.{marks_from}
use Rattle.surf_rle.proofs.cells.draw_lines.Given as goal

abbrev pub invariant-loop-line : goal.invariant-loop-line
invariant-loop-line l = record {
  sheet : IsSheet l.sheet l.cells;
  row : l.pen.row + 2 ^ 32 * length l.lines.left ≤ 2 ^ 32 * length l.initial.lines.left;
  column : l.pen.column + 2 ^ 32 * length l.lines.left ≤ 2 ^ 32 * length l.initial.lines.left;
  read : rest_of l.sheet (record { row = 0; column = 0 }) l.initial.cells (marks_from (l.initial.lines.number + 1) (lines_of l.initial.lines.left)) ≡ rest_of l.sheet l.pen l.cells (marks_from (l.lines.number + 1) (lines_of l.lines.left));
}

abbrev pub decreases-loop-line : goal.decreases-loop-line
decreases-loop-line l = length l.lines.left
