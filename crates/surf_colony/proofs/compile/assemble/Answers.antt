use Rattle.std.proofs.Common.{◌≡◌, ◌*◌, ◌≤◌, length, ap, sym, subst, ◌∙◌}
use Rattle.surf_auto.specs.Sync.{Universe, box_of, universe}
use Rattle.surf_lattice.specs.AnyGrid.{grid_of}
use Rattle.surf_manifest.proofs.Growth.{rules_below}
use Rattle.surf_colony.proofs.Compiled.{framed_few, longer_kept, placed, sites_placed, system_is}
use Rattle.surf_colony.proofs.compile.assemble.Goals as goal

pub start_numbers-requires-clause-sites : goal.start_numbers-requires-clause-sites
start_numbers-requires-clause-sites g c =
    let a = c.args.automaton.now in
    let U : Universe = universe (box_of a.kind a.wrap a.width a.height) (g.L.Local.rule a.local) a.edge a.cells.items in
    subst (λ h. h.width * h.height ≤ 33554432) (sym c.framed-grid.ensures) (framed_few U a.stands)

pub assemble-requires-clause-rules : goal.assemble-requires-clause-rules
assemble-requires-clause-rules g c =
    rules_below (length c.args.names) (length c.start_numbers.new.names) c.args.rules.items (longer_kept c.args.names c.start_numbers.new.names c.start_numbers.ensures.keeps) c.requires.below

pub assemble-requires-clause-start : goal.assemble-requires-clause-start
assemble-requires-clause-start g c = (placed c.start_numbers.new.names c.in_ok-start.start.items _ c.in_ok-start.ensures.start).within

pub assemble-requires-clause-sites : goal.assemble-requires-clause-sites
assemble-requires-clause-sites g c =
    let a = c.args.automaton.now in
    let U : Universe = universe (box_of a.kind a.wrap a.width a.height) (g.L.Local.rule a.local) a.edge a.cells.items in
    subst (λ h. length c.in_ok-start.start.items ≡ h.width * h.height) (sym c.framed-grid.ensures) (sites_placed U c.start_numbers.new.names c.in_ok-start.start.items c.in_ok-start.ensures.start)

pub assemble-requires-clause-few_sites : goal.assemble-requires-clause-few_sites
assemble-requires-clause-few_sites g c =
    let a = c.args.automaton.now in
    let U : Universe = universe (box_of a.kind a.wrap a.width a.height) (g.L.Local.rule a.local) a.edge a.cells.items in
    subst (λ n. n ≤ 33554432) (sym (sites_placed U c.start_numbers.new.names c.in_ok-start.start.items c.in_ok-start.ensures.start)) (framed_few U a.stands)

pub returns-clause-system : goal.returns-clause-system
returns-clause-system g c = λ last say.
    let a = c.args.automaton.now in
    let U : Universe = universe (box_of a.kind a.wrap a.width a.height) (g.L.Local.rule a.local) a.edge a.cells.items in
    ap (λ m. m.text.system) c.assemble.ensures
    ∙ system_is U last c.args.names c.start_numbers.new.names c.args.rules.items c.in_ok-start.start.items (grid_of c.framed-grid.result) c.start_numbers.ensures.keeps c.framed-grid.ensures c.in_ok-start.ensures.start say
