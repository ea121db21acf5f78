use Rattle.std.specs.Option.{option_to_list}
use Rattle.surf_sim.proofs.Rights.{settled_kept, settled_stays}
use Rattle.surf_sim.proofs.refresh.refresh_unsettled.Goals as goal

pub returns-then-not-is_settled-clause-settled : goal.returns-then-not-is_settled-clause-settled
returns-then-not-is_settled-clause-settled g c =
    let w = c.args.world.now in
    settled_kept w.surface w.names c.args.site (option_to_list c.args.changed) _ _ c.requires.site c.requires.weights c.requires.settled c.refresh.ensures.set

pub returns-else-not-is_settled-clause-set : goal.returns-else-not-is_settled-clause-set
returns-else-not-is_settled-clause-set g c =
    let w = c.args.world.now in
    settled_stays w.surface w.names c.args.changed c.args.site _ c.requires.site c.requires.settled (c.is_settled.ensures c.if-not-is_settled.false)
