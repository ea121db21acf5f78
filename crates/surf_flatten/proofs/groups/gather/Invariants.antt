use Rattle.std.proofs.Common.{◌≡◌, ◌++◌, length, drop}
use Rattle.surf_logic.specs.Marks.{fresh, marked}
use Rattle.surf_flatten.proofs.groups.gather.Given as goal

abbrev pub invariant-loop-place : goal.invariant-loop-place
invariant-loop-place l = record {
  flags : marked l.flags (drop l.place-index l.places) ≡ marked l.initial.flags l.places;
  list : l.list.items ++ fresh l.flags (drop l.place-index l.places) ≡ l.initial.list.items ++ fresh l.initial.flags l.places;
  same : length l.flags ≡ length l.initial.flags;
}
