use Rattle.std.proofs.Common.{◌-◌, length}
use Rattle.surf_logic.specs.Marks.{IsPassed}
use Rattle.surf_logic.proofs.ready.known_from.Given as goal

abbrev pub invariant-loop-count : goal.invariant-loop-count
invariant-loop-count l = IsPassed l.known l.names l.count

abbrev pub decreases-loop-count : goal.decreases-loop-count
decreases-loop-count l = length l.names - l.count
