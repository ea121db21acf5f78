use Rattle.surf_world.proofs.Singles.{pair_rates, pair_small}
use Rattle.surf_world.proofs.world.World.pair_weight.Goals as goal

pub returns-clause-sum : goal.returns-clause-sum
returns-clause-sum g c p q adjacent own other =
    pair_rates c.args.self.now.surface c.book-book.result.now c.book-book.ensures.rules c.args.self.now.names p q c.args.name c.args.other c.pair_sum.result adjacent own other c.pair_sum.ensures

pub returns-clause-bound : goal.returns-clause-bound
returns-clause-bound g c = pair_small c.book-book.result.now c.args.name c.args.other c.pair_sum.result c.len-rule_count.ensures.rates c.book-book.ensures.few c.pair_sum.ensures
