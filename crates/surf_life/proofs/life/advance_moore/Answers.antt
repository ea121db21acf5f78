use Rattle.std.proofs.Common.{◌≡◌, length, map, sym, ap, ◌∙◌, subst}
use Rattle.std.proofs.lemmas.List.{with_items_is}
use Rattle.surf_auto.specs.Sync.{IsUniverse, box_of, sync, universe}
use Rattle.surf_auto.proofs.Phases.{is_universe}
use Rattle.surf_lattice.specs.Grids.{sites}
use Rattle.surf_life.specs.Halves.{moore_rule}
use Rattle.surf_life.specs.Laws.{halves}
use Rattle.surf_life.proofs.Cells.{sized, by_phases}
use Rattle.surf_life.proofs.life.advance_moore.Goals as goal

pub write_back-requires : goal.write_back-requires
write_back-requires c =
    let a = c.args.automaton.now in
    let g = box_of a.kind a.wrap a.width a.height in
    ap length c.deref_mut.ensures.value
    ∙ a.stands.one_per_site
    ∙ sym (ap length c.deref.ensures.value ∙ sized a.local g a.cells.items c.in_ok-bytes.bytes.items c.args.times c.in_ok-bytes.ensures)

pub returns-clause-cells : goal.returns-clause-cells
returns-clause-cells c =
    let a = c.args.automaton.now in
    let g = box_of a.kind a.wrap a.width a.height in
    let is : IsUniverse (halves a.local g a.cells.items) = subst (λ e. IsUniverse (universe g (moore_rule a.local) e a.cells.items)) c.requires.edge a.stands in
    with_items_is a.cells c.write_back.new.cells (c.write_back.auto.cells ∙ c.deref_mut.ensures.len)
    ∙ c.write_back.ensures
    ∙ c.deref.ensures.value
    ∙ subst (λ e. c.in_ok-bytes.bytes.items ≡ map (sync (universe g (moore_rule a.local) e a.cells.items) c.args.times) (sites g)) (sym c.requires.edge)
    (by_phases a.local g a.cells.items c.in_ok-bytes.bytes.items c.args.times is c.in_ok-bytes.ensures)

pub invariant_of-automaton : goal.invariant_of-automaton
invariant_of-automaton c =
    let a = c.args.automaton.now in
    let g = box_of a.kind a.wrap a.width a.height in
    let U = universe g (moore_rule a.local) a.edge a.cells.items in
    let is : IsUniverse (halves a.local g a.cells.items) = subst (λ e. IsUniverse (universe g (moore_rule a.local) e a.cells.items)) c.requires.edge a.stands in
    let cells = with_items_is a.cells c.write_back.new.cells (c.write_back.auto.cells ∙ c.deref_mut.ensures.len)
    ∙ c.write_back.ensures
    ∙ c.deref.ensures.value
    ∙ subst (λ e. c.in_ok-bytes.bytes.items ≡ map (sync (universe g (moore_rule a.local) e a.cells.items) c.args.times) (sites g)) (sym c.requires.edge)
    (by_phases a.local g a.cells.items c.in_ok-bytes.bytes.items c.args.times is c.in_ok-bytes.ensures) in
    record { stands = is_universe U a.stands c.args.times _ cells }
