use Rattle.std.proofs.Common.{◌<◌, length}
use Rattle.surf_pick.specs.Wides.{SameLeaves, Mending}
use Rattle.surf_pick.proofs.wide.mend.Given as goal

abbrev pub invariant-loop-at : goal.invariant-loop-at
invariant-loop-at l = record {
  leaves : SameLeaves l.initial.sums.items l.sums.items l.leaf;
  mending : Mending l.sums.items l.leaf l.at l.old l.new;
  within : l.at < length l.sums.items;
}

abbrev pub decreases-loop-at : goal.decreases-loop-at
decreases-loop-at l = l.at
