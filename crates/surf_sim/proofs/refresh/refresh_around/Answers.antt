use Rattle.std.proofs.Common.{rules, arith, ◌≡◌, ap}
use Rattle.std.specs.Option.{option_to_list}
use Rattle.surf_lattice.specs.Grids.{degree}
use Rattle.surf_sim.proofs.Weights.{around_more, around_all}
use Rattle.surf_sim.proofs.Rights.{around_right, sets_more, sets_all, settled_done}
use Rattle.surf_sim.proofs.refresh.refresh_around.Goals as goal

pub loop-direction-preserved : goal.loop-direction-preserved
loop-direction-preserved g c =
    let w = c.args.world.now in
    record {
      set = around_more w.surface w.names c.args.site c.loop-direction.direction _ _ _ c.loop-direction.invariant.set (search rules);
      weights = c.refresh_some.ensures.weights;
      settled = c.refresh_some.ensures.settled;
      sets = sets_more w.surface.grid _ c.args.site c.loop-direction.direction _ _ _ _ c.grid-in-loop-direction.ensures c.neighbour.ensures c.loop-direction.invariant.sets c.refresh_some.ensures.sets;
      counted = omega (arith, c.loop-direction.invariant.counted, c.refresh_some.ensures.counted);
    }

pub returns-clause-right : goal.returns-clause-right
returns-clause-right g c =
    let w = c.args.world.now in
    let whole : c.loop-direction.direction ≡ degree w.surface.grid.kind = omega (arith, c.loop-direction-test.false, c.loop-direction.auto.direction-end, c.degree-direction-end.ensures, ap (λ h. degree h.kind) c.grid.ensures) in
    around_right w.surface w.names c.args.site _ _ c.requires.site c.requires.weights (around_all w.surface w.names c.args.site c.loop-direction.direction _ _ whole c.loop-direction.invariant.set)

pub returns-clause-sets : goal.returns-clause-sets
returns-clause-sets g c =
    let w = c.args.world.now in
    let whole : c.loop-direction.direction ≡ degree w.surface.grid.kind = omega (arith, c.loop-direction-test.false, c.loop-direction.auto.direction-end, c.degree-direction-end.ensures, ap (λ h. degree h.kind) c.grid.ensures) in
    sets_all w.surface.grid c.args.site c.loop-direction.direction _ _ whole c.loop-direction.invariant.sets

pub loop-direction-init : goal.loop-direction-init
loop-direction-init g c =
    let w = c.args.world.now in
    record {
      set = c.refresh.ensures.set;
      weights = c.refresh.ensures.weights;
      settled = settled_done w.surface w.names c.args.site (option_to_list c.args.changed) _ _ c.requires.site c.requires.weights c.requires.settled c.refresh.ensures.set;
      sets = omega (arith, c.refresh.ensures.sets);
      counted = c.refresh.ensures.counted;
    }
