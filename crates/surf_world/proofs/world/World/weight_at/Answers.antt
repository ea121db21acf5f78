use Rattle.std.proofs.Common.{rules, sym}
use Rattle.surf_lattice.specs.Grids.{IsInside}
use Rattle.surf_world.proofs.Outside.{weight_outside}
use Rattle.surf_world.proofs.world.World.weight_at.Goals as goal

pub returns-then-not-contains-clause-sum : goal.returns-then-not-contains-clause-sum
returns-then-not-contains-clause-sum g c =
    let outside : IsInside c.args.self.now.surface.grid c.args.site → ⊥ = search rules in
    sym (weight_outside c.args.self.now.surface c.args.self.now.names c.args.site outside)
