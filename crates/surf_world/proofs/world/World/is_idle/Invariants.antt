use Rattle.std.proofs.Common.{◌≡◌, [], length, flat_map, nat_eq}
use Rattle.std.specs.List.{range_with_len}
use Rattle.surf_lattice.specs.Grids.{neighbour}
use Rattle.surf_world.specs.Choices.{enabled_test, events_toward}
use Rattle.surf_world.proofs.world.World.is_idle.Given as goal

abbrev pub invariant-loop-direction : goal.invariant-loop-direction
invariant-loop-direction g l = flat_map (λ i. events_toward (enabled_test nat_eq l.self.surface l.self.names) (length l.self.surface.rules) l.site (neighbour l.self.surface.grid l.site i)) (range_with_len 0 l.direction) ≡ []
