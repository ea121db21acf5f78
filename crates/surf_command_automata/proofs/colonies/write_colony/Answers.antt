use Rattle.std.proofs.Common.{refl}
use Rattle.surf_auto.specs.Sync.{Universe, box_of, universe}
use Rattle.surf_rle.specs.Sources.{Plain}
use Rattle.surf_command_automata.proofs.Automata.{plain_steps}
use Rattle.surf_command_automata.proofs.colonies.write_colony.Goals as goal

pub returns-clause-ends : goal.returns-clause-ends
returns-clause-ends g c = λ margin input spelled.
    let a = c.args.automaton in
    let U : Universe = universe (box_of a.kind a.wrap a.width a.height) (g.L.Local.rule a.local) a.edge a.cells.items in
    c.write_source.ensures.ends margin input (Plain U) spelled refl (plain_steps U)
