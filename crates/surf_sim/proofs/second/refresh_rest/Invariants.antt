use Rattle.std.proofs.Common.{◌≡◌, ◌≤◌, ◌+◌, ◌∷◌, [], filter, length}
use Rattle.std.specs.List.{filter_map, range_with_len}
use Rattle.surf_lattice.specs.Grids.{neighbour}
use Rattle.surf_world.specs.Picks.{around, refreshed}
use Rattle.surf_sim.specs.Simulations.{AreWeights}
use Rattle.surf_sim.specs.Touched.{is_new, AreRight, AreSettled}
use Rattle.surf_sim.proofs.second.refresh_rest.Given as goal

abbrev pub invariant-loop-direction : goal.invariant-loop-direction
invariant-loop-direction g l = record {
  set : g.P.Picker.weights l.picker ≡ refreshed l.world.surface l.world.names (l.second ∷ filter_map (neighbour l.world.surface.grid l.second) (range_with_len 0 l.direction)) (g.P.Picker.weights l.fn.picker);
  weights : AreWeights l.world.surface (g.P.Picker.weights l.picker);
  right : AreRight l.world.surface l.world.names (around l.world.surface.grid l.first) (g.P.Picker.weights l.picker);
  settled : AreSettled l.world.surface l.world.names [] (g.P.Picker.weights l.picker);
  sets : g.P.Picker.sets l.picker ≤ g.P.Picker.sets l.fn.picker + length (filter (is_new l.world.surface.grid l.first) (l.second ∷ filter_map (neighbour l.world.surface.grid l.second) (range_with_len 0 l.direction)));
  counted : g.P.Picker.sets l.fn.picker ≤ g.P.Picker.sets l.picker;
}
