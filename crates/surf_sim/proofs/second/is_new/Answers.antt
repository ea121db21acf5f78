use Rattle.surf_sim.proofs.Touched.{beside_new, other_of}
use Rattle.surf_sim.proofs.second.is_new.Goals as goal

pub returns-then-ne : goal.returns-then-ne
returns-then-ne g c =
    beside_new (g.L.Lattice.grid c.args.grid.now) c.args.first c.args.site c.is_adjacent.result c.requires.first
    (other_of c.args.first c.args.site c.ne.result c.ne.ensures c.if-ne.true) c.is_adjacent.ensures.0 c.is_adjacent.ensures.1
