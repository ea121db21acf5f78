use Rattle.std.proofs.Common.{take}
use Rattle.surf_logic.proofs.Cycling.{NoneCyclic}
use Rattle.surf_logic.proofs.cycles.first_by.Given as goal

abbrev pub invariant-loop-equation : goal.invariant-loop-equation
invariant-loop-equation l = NoneCyclic l.left (take l.equation-index l.left)
