use Rattle.std.proofs.Common.{rules}
use Rattle.surf_sim.proofs.Rights.{still_right, passed_over}
use Rattle.surf_sim.proofs.second.refresh_new.Goals as goal

pub returns-then-is_new-clause-right : goal.returns-then-is_new-clause-right
returns-then-is_new-clause-right g c =
    let w = c.args.world.now in
    still_right w.surface w.names c.args.first c.args.site _ _ c.requires.first c.requires.site c.requires.weights c.requires.right c.refresh_unsettled.ensures.set

pub returns-else-is_new-clause-set : goal.returns-else-is_new-clause-set
returns-else-is_new-clause-set g c =
    let w = c.args.world.now in
    passed_over w.surface w.names c.args.first c.args.site _ c.requires.right (search rules)
