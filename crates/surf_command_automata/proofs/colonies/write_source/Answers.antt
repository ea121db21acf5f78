use Rattle.std.proofs.Common.{Ok, None, ap, subst, sym, ◌∙◌}
use Rattle.surf_auto.specs.Sync.{IsUniverse, Universe, box_of, universe}
use Rattle.surf_colony.specs.Colonies.{StartsWithin, framed}
use Rattle.surf_colony.specs.InStep.{KeepsInStep}
use Rattle.surf_manifest_print.specs.Prints.{print_of}
use Rattle.surf_rle.specs.Sources.{Plain}
use Rattle.surf_command_automata.specs.Automata.{colony_manifest, in_phases, printed_colony}
use Rattle.surf_command_automata.proofs.Automata.{holds, output_is, same_print}
use Rattle.surf_command_automata.proofs.colonies.write_source.Goals as goal

pub returns-clause-ends : goal.returns-clause-ends
returns-clause-ends g c = λ margin input S spelled same steps.
    let a = c.args.automaton in
    let U : Universe = universe (box_of a.kind a.wrap a.width a.height) (g.L.Local.rule a.local) a.edge a.cells.items in
    let m = c.in-Ok.manifest.text in
    let last = c.args.last in
    c.write_manifest.ensures.ends margin last input
    (output_is margin last input S spelled (Ok (print_of m None)) (same_print last S ∙ ap (λ (V : Universe). printed_colony last (Ok (Plain V))) same ∙ c.in-Ok.ensures.text))
    (λ read. holds margin last input S spelled m (c.in-Ok.ensures.colony ∙ ap (λ (V : Universe). colony_manifest V last) (sym same)) (subst IsUniverse (sym same) a.stands) (subst StartsWithin (sym same) c.requires.starts) (c.in-Ok.ensures.framed ∙ ap (λ (V : Universe). framed V.grid) (sym same)) c.in-Ok.ensures.names (subst (λ (V : Universe). KeepsInStep V (in_phases V last) m.system) (sym same) c.in-Ok.ensures.in_step) steps read)
