use Rattle.std.proofs.Common.{◌≡◌, ◌≤◌, ◌*◌, take, drop}
use Rattle.surf_base.specs.Emits.{Sent}
use Rattle.surf_cells.specs.Rows.{cells}
use Rattle.surf_cells.proofs.rows.print_row.Given as goal

abbrev pub invariant-loop-x : goal.invariant-loop-x
invariant-loop-x g l = record {
  first : l.first ≡ l.y * l.width;
  sent : Sent (g.K.Sink.written l.initial.out) (g.K.Sink.written l.out) l.initial.outbox l.outbox
      (cells l.width 0 (take l.x (take l.width (drop (l.y * l.width) (g.C.Cells.texts l.cells)))));
  later : g.K.Sink.faults l.initial.out ≤ g.K.Sink.faults l.out;
}
