use Rattle.std.proofs.Common.{arith, ◌+◌, ◌*◌, suc, ap, sym, ◌∙◌}
use Rattle.surf_pick.proofs.WideRows.{below_out}
use Rattle.surf_pick.proofs.wide.leaf_for.Goals as goal

pub loop-leaf-preserved : goal.loop-leaf-preserved
loop-leaf-preserved c = ((suc c.loop-leaf.invariant.0.0, ap (λ v. 8 * v + 8) c.loop-leaf.invariant.0.1 ∙ sym (below_out c.loop-leaf.invariant.0.0 0)), omega (arith, c.loop-leaf.invariant.1))
