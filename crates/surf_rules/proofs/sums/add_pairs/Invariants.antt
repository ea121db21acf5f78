use Rattle.std.proofs.Common.{◌≡◌, ◌*◌, length}
use Rattle.surf_rules.specs.Sums.{IsTable}
use Rattle.surf_rules.proofs.sums.add_pairs.Given as goal

abbrev pub invariant-loop-place : goal.invariant-loop-place
invariant-loop-place l = record {
  whole : length l.table.items ≡ l.side * l.side;
  at : IsTable l.rules l.place l.side l.table.items;
}
