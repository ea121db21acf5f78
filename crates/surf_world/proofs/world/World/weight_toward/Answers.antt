use Rattle.std.proofs.Common.{nat_eq, ap, sym, ◌∙◌, length, sum_by}
use Rattle.surf_world.specs.Choices.{enabled_test, events_toward}
use Rattle.surf_world.specs.Picks.{rate_of}
use Rattle.surf_world.proofs.Sums.{toward_adjacent, toward_some}
use Rattle.surf_world.proofs.world.World.weight_toward.Goals as goal

pub at-requires-in-Some : goal.at-requires-in-Some
at-requires-in-Some g c =
    (toward_adjacent c.args.self.now.surface.grid _ c.args.site c.args.direction c.in-Some.second c.grid.ensures c.requires.site c.requires.direction c.in-Some.ensures).second

pub returns-in-Some-clause-sum : goal.returns-in-Some-clause-sum
returns-in-Some-clause-sum g c =
    let S = c.args.self.now.surface in
    c.pair_weight.ensures.sum c.args.site c.in-Some.second
    (toward_adjacent S.grid _ c.args.site c.args.direction c.in-Some.second c.grid.ensures c.requires.site c.requires.direction c.in-Some.ensures) c.at.ensures c.at-in-Some.ensures
    ∙ ap (λ o. sum_by (rate_of S) (events_toward (enabled_test nat_eq S c.args.self.now.names) (length S.rules) c.args.site o)) (sym (toward_some S.grid _ c.args.site c.args.direction c.in-Some.second c.grid.ensures c.in-Some.ensures))
