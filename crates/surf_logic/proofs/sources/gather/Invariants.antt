use Rattle.std.proofs.Common.{◌≡◌, ◌++◌, length, drop}
use Rattle.surf_logic.specs.Marks.{fresh, marked}
use Rattle.surf_logic.proofs.sources.gather.Given as goal

abbrev pub invariant-loop-name : goal.invariant-loop-name
invariant-loop-name l = record {
  flags : marked l.flags (drop l.name-index l.names) ≡ marked l.initial.flags l.names;
  list : l.list.items ++ fresh l.flags (drop l.name-index l.names) ≡ l.initial.list.items ++ fresh l.initial.flags l.names;
  same : length l.flags ≡ length l.initial.flags;
}
