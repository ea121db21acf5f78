use Rattle.surf_world.proofs.Singles.{alone_rates, alone_small}
use Rattle.surf_world.proofs.world.World.alone_weight.Goals as goal

pub returns-clause-sum : goal.returns-clause-sum
returns-clause-sum g c = alone_rates c.args.self.now.surface c.book-book.result.now c.book-book.ensures.rules c.args.self.now.names c.args.site c.at.result c.alone_sum.result c.requires c.at.ensures c.alone_sum.ensures

pub returns-clause-bound : goal.returns-clause-bound
returns-clause-bound g c = alone_small c.book-book.result.now c.at.result c.alone_sum.result c.len-rule_count.ensures.rates c.book-book.ensures.few c.alone_sum.ensures
