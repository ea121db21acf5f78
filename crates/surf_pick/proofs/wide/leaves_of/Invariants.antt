use Rattle.std.proofs.Common.{◌≡◌, ◌++◌, take, replicate}
use Rattle.surf_pick.proofs.wide.leaves_of.Given as goal

abbrev pub invariant-loop-weight : goal.invariant-loop-weight
invariant-loop-weight l = l.sums.items ≡ replicate l.leaf 0 ++ take l.weight-index l.list
