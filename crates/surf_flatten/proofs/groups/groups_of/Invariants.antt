use Rattle.std.proofs.Common.{◌≡◌, ◌≤◌, length}
use Rattle.surf_flatten.proofs.Grouping.{Grouped}
use Rattle.surf_flatten.proofs.groups.groups_of.Given as goal

abbrev pub invariant-loop-root : goal.invariant-loop-root
invariant-loop-root l = record {
  grouped : Grouped l.models l.done l.root-index l.taken.items l.groups.items l.count;
  taken : length l.taken.items ≡ length l.models;
  groups : length l.groups.items ≡ length l.models;
  few : l.count ≤ l.root-index;
}
