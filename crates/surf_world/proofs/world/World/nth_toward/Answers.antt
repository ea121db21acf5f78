use Rattle.std.proofs.Common.{arith, nat_eq, ap, length, sum_by}
use Rattle.surf_world.specs.Choices.{enabled_test, events_toward}
use Rattle.surf_world.specs.Picks.{rate_of}
use Rattle.surf_world.proofs.Sums.{toward_adjacent, toward_some, toward_nothing, picked_of}
use Rattle.surf_world.proofs.world.World.nth_toward.Goals as goal

pub nth_between-requires : goal.nth_between-requires
nth_between-requires g c = toward_adjacent c.args.self.now.surface.grid _ c.args.site c.args.direction c.in-Some.second c.grid.ensures c.requires.site c.requires.direction c.in-Some.ensures

pub returns-in-Some : goal.returns-in-Some
returns-in-Some g c =
    let S = c.args.self.now.surface in
    picked_of S _ _ c.args.r _ (ap (events_toward (enabled_test nat_eq S c.args.self.now.names) (length S.rules) c.args.site) (toward_some S.grid _ c.args.site c.args.direction c.in-Some.second c.grid.ensures c.in-Some.ensures)) c.nth_between.ensures

pub returns-in-None : goal.returns-in-None
returns-in-None g c =
    let S = c.args.self.now.surface in
    let test = enabled_test nat_eq S c.args.self.now.names in
    let none = ap (sum_by (rate_of S)) (toward_nothing S test (length S.rules) _ c.args.site c.args.direction c.grid.ensures c.in-None.ensures) in
    omega (arith, none)
