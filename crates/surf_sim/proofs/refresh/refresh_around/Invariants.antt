use Rattle.std.proofs.Common.{◌≡◌, ◌≤◌, ◌+◌, ◌∷◌, length}
use Rattle.std.specs.List.{filter_map, range_with_len}
use Rattle.surf_lattice.specs.Grids.{neighbour}
use Rattle.surf_world.specs.Picks.{refreshed}
use Rattle.std.specs.Option.{option_to_list}
use Rattle.surf_sim.specs.Simulations.{AreWeights}
use Rattle.surf_sim.specs.Touched.{AreSettled}
use Rattle.surf_sim.proofs.refresh.refresh_around.Given as goal

abbrev pub invariant-loop-direction : goal.invariant-loop-direction
invariant-loop-direction g l = record {
  set : g.P.Picker.weights l.picker ≡ refreshed l.world.surface l.world.names (l.site ∷ filter_map (neighbour l.world.surface.grid l.site) (range_with_len 0 l.direction)) (g.P.Picker.weights l.fn.picker);
  weights : AreWeights l.world.surface (g.P.Picker.weights l.picker);
  settled : AreSettled l.world.surface l.world.names (option_to_list l.changed) (g.P.Picker.weights l.picker);
  sets : g.P.Picker.sets l.picker ≤ g.P.Picker.sets l.fn.picker + 1 + length (filter_map (neighbour l.world.surface.grid l.site) (range_with_len 0 l.direction));
  counted : g.P.Picker.sets l.fn.picker ≤ g.P.Picker.sets l.picker;
}
