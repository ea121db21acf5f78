use Rattle.std.proofs.Common.{◌≡◌, ◌*◌, ◌≤◌, length, sum, map, take}
use Rattle.surf_tiles.specs.Kinds.{changes_of}
use Rattle.surf_settle.proofs.layout.Layout.events.Given as goal

abbrev pub invariant-loop-kind : goal.invariant-loop-kind
invariant-loop-kind l = record {
  summed : l.total ≡ sum (map changes_of (take l.kind-index l.self.kinds));
  small : l.total ≤ 2 * l.kind-index;
  few : length l.self.kinds ≤ 27027000;
}
