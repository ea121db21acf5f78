use Rattle.surf_tiles.proofs.Growing.{interned}
use Rattle.surf_tiles.proofs.rules.number_of.Goals as goal

pub returns-clause-grown : goal.returns-clause-grown
returns-clause-grown c = interned _ _ _ _ _ c.name.ensures c.intern.ensures.grown c.intern.ensures.err
