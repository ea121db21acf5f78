use Rattle.std.proofs.Common.{rules, ◌≡◌}
use Rattle.surf_world.proofs.Places.{site_of}
use Rattle.surf_world.proofs.world.World.site_at.Goals as goal

pub returns-clause-listed : goal.returns-clause-listed
returns-clause-listed g c =
    let w : c.width-width.result ≡ c.args.self.now.surface.grid.width = search rules in
    rw w (site_of c.args.self.now.surface.grid c.args.place c.requires)
