use Rattle.std.proofs.Common.{◌∙◌, sym, ap}
use Rattle.surf_settle.specs.Indices.{kind_index}
use Rattle.surf_settle.proofs.Listed.{index_of}
use Rattle.surf_settle.proofs.kind_byte.KindByte.index.Goals as goal

pub returns-clause-is : goal.returns-clause-is
returns-clause-is c = sym (index_of c.self.inside.index c.self.invariant) ∙ ap kind_index c.self.view_is
