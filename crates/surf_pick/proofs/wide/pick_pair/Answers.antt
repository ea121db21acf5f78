use Rattle.std.proofs.Common.{arith}
use Rattle.surf_pick.proofs.WideRows.{four_is}
use Rattle.surf_pick.proofs.wide.pick_pair.Goals as goal

pub overflow_add-pair-2 : goal.overflow_add-pair-2
overflow_add-pair-2 c = omega (arith, four_is c.args.sums.now c.args.group)
