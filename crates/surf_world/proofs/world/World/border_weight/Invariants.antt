use Rattle.std.proofs.Common.{◌≡◌, ◌≤◌, ◌*◌, length, flat_map, nat_eq, sum_by}
use Rattle.std.specs.List.{range_with_len}
use Rattle.surf_lattice.specs.Grids.{neighbour}
use Rattle.surf_world.specs.Choices.{enabled_test, events_toward}
use Rattle.surf_world.specs.Picks.{rate_of}
use Rattle.surf_world.proofs.world.World.border_weight.Given as goal

abbrev pub invariant-loop-direction : goal.invariant-loop-direction
invariant-loop-direction g l = record {
  sum : l.sum ≡ sum_by (rate_of l.self.surface) (flat_map (λ i. events_toward (enabled_test nat_eq l.self.surface l.self.names) (length l.self.surface.rules) l.site (neighbour l.self.surface.grid l.site i)) (range_with_len 0 l.direction));
  bound : l.sum ≤ l.direction * (1048576 * 1000000000000);
}
