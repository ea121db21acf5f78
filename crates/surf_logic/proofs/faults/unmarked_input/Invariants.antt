use Rattle.std.proofs.Common.{◌≡◌, drop}
use Rattle.surf_logic.specs.Order.{inputs_of}
use Rattle.surf_logic.specs.Marks.{missing_by}
use Rattle.surf_logic.proofs.faults.unmarked_input.Given as goal

abbrev pub invariant-loop-equation : goal.invariant-loop-equation
invariant-loop-equation l = missing_by l.flags (inputs_of (drop l.equation-index l.equations)) ≡ missing_by l.flags (inputs_of l.equations)
