use Rattle.std.proofs.Common.{◌≡◌, ℕ, ◌<◌, [], nat_eq}
use Rattle.surf_lattice.specs.Grids.{site_at}
use Rattle.surf_world.specs.Choices.{choices_at}
use Rattle.surf_world.proofs.world.World.is_stuck.Given as goal

abbrev pub invariant-loop-place : goal.invariant-loop-place
invariant-loop-place g l = (k : ℕ) → k < l.place → choices_at nat_eq l.self.surface l.self.names (site_at l.self.surface.grid k) ≡ []
