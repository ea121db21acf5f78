use Rattle.std.proofs.Common.{◌∙◌, ap, sym, flat_map, arith}
use Rattle.std.specs.Option.{option_to_list}
use Rattle.surf_world.specs.Picks.{around, refreshed}
use Rattle.surf_world.proofs.Around.{refreshed_append}
use Rattle.surf_sim.proofs.Touched.{touched_few}
use Rattle.surf_sim.proofs.Rights.{sets_touched}
use Rattle.surf_sim.proofs.refresh.refresh_event.Goals as goal

pub returns-clause-set : goal.returns-clause-set
returns-clause-set g c =
    let w = c.args.world.now in
    let e = c.args.event.now in
    let rest = flat_map (around w.surface.grid) (option_to_list e.second) in
    c.refresh_second.ensures.set ∙ ap (λ v. refreshed w.surface w.names rest v) c.refresh_around.ensures.set
    ∙ sym (refreshed_append w.surface w.names (around w.surface.grid e.first) rest (g.P.Picker.weights c.args.picker.now))

pub returns-clause-once : goal.returns-clause-once
returns-clause-once g c = sets_touched c.args.world.now.surface.grid c.args.event.now _ _ _ c.refresh_around.ensures.sets c.refresh_second.ensures.sets

pub returns-clause-sets : goal.returns-clause-sets
returns-clause-sets g c =
    let once = sets_touched c.args.world.now.surface.grid c.args.event.now _ _ _ c.refresh_around.ensures.sets c.refresh_second.ensures.sets in
    omega (arith, once, touched_few c.args.world.now.surface.grid c.args.event.now)
