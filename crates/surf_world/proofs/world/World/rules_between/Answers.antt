use Rattle.std.proofs.Common.{arith}
use Rattle.surf_world.proofs.Agree.{pair_events}
use Rattle.surf_world.proofs.Sums.{pair_known, pair_few}
use Rattle.surf_world.proofs.world.World.rules_between.Goals as goal

pub returns-clause-events : goal.returns-clause-events
returns-clause-events g c =
    pair_events c.args.self.now.surface c.book.result.now c.book.ensures.rules c.args.self.now.names c.args.first c.args.second c.at.result c.at-2.result c.pair.result.now c.requires c.at.ensures c.at-2.ensures c.pair.ensures

pub returns-clause-known : goal.returns-clause-known
returns-clause-known g c = rw c.pair.ensures (pair_known c.book.result.now c.args.self.now.surface.rules c.at.result c.at-2.result c.book.ensures.rules)

pub returns-clause-few : goal.returns-clause-few
returns-clause-few g c = rw c.pair.ensures (omega (arith, pair_few c.book.result.now c.at.result c.at-2.result, c.book.ensures.few))
