use Rattle.std.proofs.Common.{◌≡◌, length, drop}
use Rattle.surf_logic.specs.Marks.{twice_by, marked}
use Rattle.surf_logic.proofs.faults.mark.Given as goal

abbrev pub invariant-loop-name : goal.invariant-loop-name
invariant-loop-name l = record {
  first : twice_by l.flags (drop l.name-index l.names) ≡ twice_by l.initial.flags l.names;
  all : marked l.flags (drop l.name-index l.names) ≡ marked l.initial.flags l.names;
  same : length l.flags ≡ length l.initial.flags;
}
