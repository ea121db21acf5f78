use Rattle.std.proofs.Common.{◌≤◌, take, map}
use Rattle.surf_base.specs.Emits.{Sent}
use Rattle.surf_rules.specs.Names.{text_of}
use Rattle.surf_command_traces.specs.Finals.{finals_text}
use Rattle.surf_command_traces.proofs.outputs.print_finals.Given as goal

abbrev pub invariant-loop-output : goal.invariant-loop-output
invariant-loop-output g l = record {
  sent : Sent (g.K.Sink.written l.initial.out) (g.K.Sink.written l.out) l.initial.outbox l.outbox (finals_text l.world.surface.grid (map (text_of l.names) l.world.names) (take l.output-index l.places));
  later : g.K.Sink.faults l.initial.out ≤ g.K.Sink.faults l.out;
}
