use Rattle.std.proofs.Common.{◌≡◌, ◌-◌, length, take, false}
use Rattle.std.specs.List.{list_any}
use Rattle.surf_logic.specs.Marks.{ArePassed, ready_by}
use Rattle.surf_logic.proofs.ready.first_ready.Given as goal

abbrev pub invariant-loop-i : goal.invariant-loop-i
invariant-loop-i l = record {
  waiting : list_any (ready_by l.known) (take l.i l.rest) ≡ false;
  passed : ArePassed l.known l.rest l.passed;
}

abbrev pub decreases-loop-i : goal.decreases-loop-i
decreases-loop-i l = length l.rest - l.i
