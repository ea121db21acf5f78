use Rattle.std.specs.Prelude.{unwrap_or}
use Rattle.std.proofs.Common.{◌≡◌, ◌+◌, ◌*◌, ◌<◌, refl, ap, sym, subst, ◌∙◌}
use Rattle.surf_lattice.specs.Grids.{colour, colours}
use Rattle.surf_auto.specs.Sync.{Universe, box_of, universe}
use Rattle.surf_colony.specs.Numbers.{cell_state, name_slot, slot_count}
use Rattle.surf_colony.proofs.Slots.{slot_within}
use Rattle.surf_colony.proofs.start.name_slot.Goals as goal

pub returns-clause-within : goal.returns-clause-within
returns-clause-within g c =
    let a = c.args.automaton.now in
    let U : Universe = universe (box_of a.kind a.wrap a.width a.height) (g.L.Local.rule a.local) a.edge a.cells.items in
    let s = c.args.site in
    let row = c.unwrap_or-row.ensures ∙ ap (λ o. unwrap_or o c.states-states.result) c.first_state.ensures ∙ ap (unwrap_or (cell_state U s)) c.states-states.ensures in
    let n = c.colours.ensures ∙ ap colours c.requires.grid in
    let k = c.colour.ensures ∙ ap (λ h. colour h s) c.requires.grid in
    let slot : c.unwrap_or-row.result * c.colours.result + c.colour.result ≡ name_slot U s = rw (row, n, k) refl in
    subst (λ i. i < slot_count U) (sym slot) (slot_within U a.stands s)
