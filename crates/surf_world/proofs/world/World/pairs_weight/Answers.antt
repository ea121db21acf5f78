use Rattle.surf_world.proofs.Singles.{book_single, single_sum}
use Rattle.surf_world.proofs.world.World.pairs_weight.Goals as goal

pub returns-then-not-is_paired-clause-sum : goal.returns-then-not-is_paired-clause-sum
returns-then-not-is_paired-clause-sum g c =
    let S = c.args.self.now.surface in
    single_sum S c.args.self.now.names c.args.site c.at.result c.at.ensures
    (book_single c.book.result.now S.rules c.at.result c.is_paired.result c.book.ensures.rules c.is_paired.ensures c.if-not-is_paired.true)
