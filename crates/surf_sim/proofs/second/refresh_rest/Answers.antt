use Rattle.std.proofs.Common.{rules, arith, ◌≡◌, [], ap}
use Rattle.surf_lattice.specs.Grids.{degree}
use Rattle.surf_sim.specs.Touched.{is_new}
use Rattle.surf_sim.proofs.Weights.{around_more}
use Rattle.surf_sim.proofs.Rights.{news_more, news_all, settled_done}
use Rattle.surf_sim.proofs.second.refresh_rest.Goals as goal

pub loop-direction-preserved : goal.loop-direction-preserved
loop-direction-preserved g c =
    let w = c.args.world.now in
    record {
      set = around_more w.surface w.names c.args.second c.loop-direction.direction _ _ _ c.loop-direction.invariant.set (search rules);
      weights = c.refresh_new_some.ensures.weights;
      right = c.refresh_new_some.ensures.right;
      settled = c.refresh_new_some.ensures.settled;
      sets = news_more w.surface.grid _ (is_new w.surface.grid c.args.first) c.args.second c.loop-direction.direction _ _ _ _ c.grid-in-loop-direction.ensures c.neighbour.ensures c.loop-direction.invariant.sets c.refresh_new_some.ensures.sets;
      counted = omega (arith, c.loop-direction.invariant.counted, c.refresh_new_some.ensures.counted);
    }

pub returns-clause-sets : goal.returns-clause-sets
returns-clause-sets g c =
    let w = c.args.world.now in
    let whole : c.loop-direction.direction ≡ degree w.surface.grid.kind = omega (arith, c.loop-direction-test.false, c.loop-direction.auto.direction-end, c.degree-direction-end.ensures, ap (λ h. degree h.kind) c.grid.ensures) in
    news_all w.surface.grid (is_new w.surface.grid c.args.first) c.args.second c.loop-direction.direction _ _ whole c.loop-direction.invariant.sets

pub loop-direction-init : goal.loop-direction-init
loop-direction-init g c =
    let w = c.args.world.now in
    record {
      set = c.refresh_new.ensures.set;
      weights = c.refresh_new.ensures.weights;
      right = c.refresh_new.ensures.right;
      settled = settled_done w.surface w.names c.args.second [] _ _ c.requires.second c.requires.weights c.requires.settled c.refresh_new.ensures.set;
      sets = c.refresh_new.ensures.sets;
      counted = c.refresh_new.ensures.counted;
    }
