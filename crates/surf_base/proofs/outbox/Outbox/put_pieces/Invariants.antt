use Rattle.std.proofs.Common.{◌≤◌, take}
use Rattle.surf_base.specs.Emits.{Sent}
use Rattle.surf_base.specs.Pieces.{pieces_text}
use Rattle.surf_base.proofs.outbox.Outbox.put_pieces.Given as goal

abbrev pub invariant-loop-piece : goal.invariant-loop-piece
invariant-loop-piece g l = record {
  sent : Sent (g.K.Sink.written l.initial.sink) (g.K.Sink.written l.sink) l.initial.self l.self (pieces_text (take l.piece-index l.pieces));
  later : g.K.Sink.faults l.initial.sink ≤ g.K.Sink.faults l.sink;
}
