use Rattle.std.proofs.Common.{◌≡◌, ◌+◌, ◌*◌, ◌^◌, ◌≤◌, ◌++◌, List, length, map}
use Rattle.surf_rle.specs.Drawings.{IsSheet, rest_of}
use Rattle.surf_rle.specs.Items.{signs_of}
use Rattle.surf_rle.specs.Patterns.{Mark, mark}
use Rattle.surf_rle.proofs.sheet.draw_line.Given as goal

abbrev pub invariant-loop-rest : goal.invariant-loop-rest
invariant-loop-rest l = record {
  sheet : IsSheet l.sheet l.cells;
  row : l.pen.row + 2 ^ 32 * length l.rest ≤ l.initial.pen.row + 2 ^ 32 * length l.line;
  column : l.pen.column + 2 ^ 32 * length l.rest ≤ l.initial.pen.column + 2 ^ 32 * length l.line;
  read : (more : List Mark) → rest_of l.sheet l.initial.pen l.initial.cells (map (mark l.number) (signs_of l.line) ++ more) ≡ rest_of l.sheet l.pen l.cells (map (mark l.number) (signs_of l.rest) ++ more);
}

abbrev pub decreases-loop-rest : goal.decreases-loop-rest
decreases-loop-rest l = length l.rest
