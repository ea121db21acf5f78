use Rattle.std.proofs.Common.{ap, sym, ◌∙◌}
use Rattle.std.proofs.lemmas.Option.{cond_some}
use Rattle.surf_lattice.specs.Grids.{colour}
use Rattle.surf_auto.specs.Sync.{Universe, box_of, state_at, universe}
use Rattle.surf_sync.specs.Spelling.{spell}
use Rattle.surf_colony.specs.Colonies.{back, in_box}
use Rattle.surf_colony.proofs.Starts.{first_cell}
use Rattle.surf_colony.proofs.start.first_name.Goals as goal

pub returns : goal.returns
returns g c =
    let a = c.args.automaton.now in
    let U : Universe = universe (box_of a.kind a.wrap a.width a.height) (g.L.Local.rule a.local) a.edge a.cells.items in
    let w = cond_some (in_box U.grid c.args.site) (state_at U (back U.grid c.args.site)) c.in-Some.state (sym c.in-Some.ensures) in
    c.in_ok-name.ensures
    ∙ ap spell (first_cell U c.args.site c.in-Some.state c.colour-colour.result c.start.result w.0 (sym w.1)
    (c.colour-colour.ensures ∙ ap (λ h. colour h c.args.site) c.requires.grid)
    c.start.ensures)
