use Rattle.surf_auto.specs.Sync.{box_of, universe}
use Rattle.surf_auto.proofs.Phases.{no_step}
use Rattle.surf_auto.proofs.automaton.Automaton.advance.Goals as goal

pub returns-then-times-eq0-clause-cells : goal.returns-then-times-eq0-clause-cells
returns-then-times-eq0-clause-cells g c =
    let a = c.args.self.now in
    no_step (universe (box_of a.kind a.wrap a.width a.height) (g.L.Local.rule a.local) a.edge a.cells.items) a.stands c.args.times c.if-times-eq0.true
