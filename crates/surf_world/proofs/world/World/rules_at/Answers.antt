use Rattle.std.proofs.Common.{arith}
use Rattle.surf_world.proofs.Agree.{alone_events}
use Rattle.surf_world.proofs.Sums.{alone_known, alone_few}
use Rattle.surf_world.proofs.world.World.rules_at.Goals as goal

pub returns-clause-events : goal.returns-clause-events
returns-clause-events g c = alone_events c.args.self.now.surface c.book.result.now c.book.ensures.rules c.args.self.now.names c.args.site c.at.result c.alone.result.now c.requires c.at.ensures c.alone.ensures

pub returns-clause-known : goal.returns-clause-known
returns-clause-known g c = rw c.alone.ensures (alone_known c.book.result.now c.args.self.now.surface.rules c.at.result c.book.ensures.rules)

pub returns-clause-few : goal.returns-clause-few
returns-clause-few g c = rw c.alone.ensures (omega (arith, alone_few c.book.result.now c.at.result, c.book.ensures.few))
