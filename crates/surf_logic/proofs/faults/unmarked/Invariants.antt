use Rattle.std.proofs.Common.{◌≡◌, drop}
use Rattle.surf_logic.specs.Marks.{missing_by}
use Rattle.surf_logic.proofs.faults.unmarked.Given as goal

abbrev pub invariant-loop-name : goal.invariant-loop-name
invariant-loop-name l = missing_by l.flags (drop l.name-index l.names) ≡ missing_by l.flags l.names
