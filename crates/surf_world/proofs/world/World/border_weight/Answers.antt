use Rattle.std.proofs.Common.{arith, ◌≤◌}
use Rattle.surf_world.proofs.Sums.{degree_small}
use Rattle.surf_world.proofs.world.World.border_weight.Goals as goal

pub overflow_add-sum : goal.overflow_add-sum
overflow_add-sum g c =
    let few : c.degree-direction-end.result ≤ 6 = rw c.degree-direction-end.ensures (degree_small _) in
    omega (arith, few, c.loop-direction-test.true, c.loop-direction.invariant.bound, c.weight_toward-sum.ensures.bound)
