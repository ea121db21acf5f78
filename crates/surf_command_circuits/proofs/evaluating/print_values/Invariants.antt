use Rattle.std.proofs.Common.{◌≤◌, take, map}
use Rattle.surf_base.specs.Emits.{Sent}
use Rattle.surf_rules.specs.Names.{text_of}
use Rattle.surf_command_circuits.specs.Values.{values_text}
use Rattle.surf_command_circuits.proofs.evaluating.print_values.Given as goal

abbrev pub invariant-loop-i : goal.invariant-loop-i
invariant-loop-i g l = record {
  sent : Sent (g.K.Sink.written l.initial.out) (g.K.Sink.written l.out) l.initial.outbox l.outbox (values_text (map (text_of l.names) (take l.i l.outputs)) (take l.i l.values));
  later : g.K.Sink.faults l.initial.out ≤ g.K.Sink.faults l.out;
}
