use Rattle.std.proofs.Common.{◌≡◌, take}
use Rattle.surf_world.specs.Systems.{IsRun}
use Rattle.surf_trace.specs.Replays.{left_world}
use Rattle.surf_trace.proofs.verdict.replay.Given as goal

abbrev pub invariant-loop-i : goal.invariant-loop-i
invariant-loop-i g l = record {
  run : IsRun l.initial.world.surface l.initial.world.names (take l.i l.events);
  left : l.world ≡ left_world l.initial.world (take l.i l.events);
}
