use Rattle.std.proofs.Common.{ℕ, ◌≡◌, ◌≤◌, ◌*◌, ◌-◌}
use Rattle.surf_pick.specs.Wides.{below}
use Rattle.surf_pick.proofs.wide.leaf_for.Given as goal

abbrev pub invariant-loop-leaf : goal.invariant-loop-leaf
invariant-loop-leaf l = ((t : ℕ) × (l.leaf ≡ below t 0)) × (l.leaf ≤ 2 * l.count)

abbrev pub decreases-loop-leaf : goal.decreases-loop-leaf
decreases-loop-leaf l = l.count - l.leaf
