use Rattle.std.proofs.Common.{◌≡◌}
use Rattle.surf_base.proofs.stream.StreamSinkSink.write.Given as goal

abbrev pub invariant-loop : goal.invariant-loop
invariant-loop g l = l.self.faults ≡ l.initial.self.faults
