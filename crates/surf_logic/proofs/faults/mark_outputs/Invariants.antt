use Rattle.std.proofs.Common.{◌≡◌, length, drop}
use Rattle.surf_logic.specs.Order.{outputs_of}
use Rattle.surf_logic.specs.Marks.{twice_by, marked}
use Rattle.surf_logic.proofs.faults.mark_outputs.Given as goal

abbrev pub invariant-loop-equation : goal.invariant-loop-equation
invariant-loop-equation l = record {
  first : twice_by l.flags (outputs_of (drop l.equation-index l.equations)) ≡ twice_by l.initial.flags (outputs_of l.equations);
  all : marked l.flags (outputs_of (drop l.equation-index l.equations)) ≡ marked l.initial.flags (outputs_of l.equations);
  same : length l.flags ≡ length l.initial.flags;
}
