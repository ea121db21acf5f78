use Rattle.std.proofs.Common.{◌≤◌}
use Rattle.surf_pick.specs.Draws.{words_of}
use Rattle.surf_command_runs.specs.Prints.{SoFar}
use Rattle.surf_command_runs.proofs.events.print_events.Given as goal

abbrev pub invariant-loop-n : goal.invariant-loop-n
invariant-loop-n g l = record {
  so_far : SoFar l.initial.sim.placed (words_of l.initial.sim.generator) l.count l.n l.sim.placed (words_of l.sim.generator) (g.K.Sink.written l.initial.out) (g.K.Sink.written l.out) l.initial.outbox l.outbox;
  later : g.K.Sink.faults l.initial.out ≤ g.K.Sink.faults l.out;
}
