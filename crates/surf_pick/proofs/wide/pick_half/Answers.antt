use Rattle.std.proofs.Common.{arith}
use Rattle.surf_pick.proofs.WideRows.{eight_is}
use Rattle.surf_pick.proofs.wide.pick_half.Goals as goal

pub overflow_add-half-2 : goal.overflow_add-half-2
overflow_add-half-2 c = omega (arith, eight_is c.args.sums.now c.args.group)

pub overflow_add-half-4 : goal.overflow_add-half-4
overflow_add-half-4 c = omega (arith, eight_is c.args.sums.now c.args.group)

pub overflow_add-half-6 : goal.overflow_add-half-6
overflow_add-half-6 c = omega (arith, eight_is c.args.sums.now c.args.group)
