use Rattle.std.proofs.Common.{◌≡◌, ◌-◌, replicate}
use Rattle.surf_table.specs.TableLines.{row_line}
use Rattle.surf_table.specs.TableTexts.{read_all, row_lines, widened}
use Rattle.surf_table.specs.Readings.{all_kept_with}
use Rattle.surf_table.proofs.body.add_rows.Given as goal

abbrev pub invariant-loop-y : goal.invariant-loop-y
invariant-loop-y l = record {
  read : all_kept_with (widened l.margin l.edge) l.fn.cells.items (read_all (row_lines l.states (l.width, l.height)) l.fn.lines) ≡ all_kept_with (widened l.margin l.edge) l.cells.items (read_all (replicate (l.height - l._y) (row_line l.states l.width)) l.lines);
}
