use Rattle.std.proofs.Common.{◌≤◌}
use Rattle.surf_base.specs.Emits.{Sent}
use Rattle.surf_cells.proofs.RowTexts.{row_lines}
use Rattle.surf_cells.proofs.rows.print_rows.Given as goal

abbrev pub invariant-loop-y : goal.invariant-loop-y
invariant-loop-y g l = record {
  sent : Sent (g.K.Sink.written l.initial.out) (g.K.Sink.written l.out) l.initial.outbox l.outbox (row_lines l.width l.y (g.C.Cells.texts l.cells));
  later : g.K.Sink.faults l.initial.out ≤ g.K.Sink.faults l.out;
}
