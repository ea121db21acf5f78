use Rattle.surf_world.proofs.Sums.{toward_adjacent}
use Rattle.surf_world.proofs.world.World.is_idle_toward.Goals as goal

pub rules_between-requires : goal.rules_between-requires
rules_between-requires g c = toward_adjacent c.args.self.now.surface.grid _ c.args.site c.args.direction c.in-Some.second c.grid.ensures c.requires.site c.requires.direction c.in-Some.ensures
