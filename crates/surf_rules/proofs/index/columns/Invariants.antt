use Rattle.std.proofs.Common.{◌≡◌, map, take}
use Rattle.surf_rules.proofs.index.columns.Given as goal

abbrev pub invariant-loop-entry : goal.invariant-loop-entry
invariant-loop-entry l = record {
  ranks : l.ranks.items ≡ map (λ e. e.rank) (take l.entry-index l.entries);
  numbers : l.numbers.items ≡ map (λ e. e.number) (take l.entry-index l.entries);
}
