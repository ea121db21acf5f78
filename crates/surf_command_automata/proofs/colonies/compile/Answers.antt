use Rattle.std.proofs.Common.{None, sym, subst, ◌≡◌, Option, ℕ, IfOk}
use Rattle.surf_auto.specs.Sync.{Universe, box_of, universe}
use Rattle.surf_colony.specs.InStep.{KeepsInStep}
use Rattle.surf_command_automata.specs.Automata.{in_phases}
use Rattle.surf_command_automata.proofs.Automata.{mapped, of_cells, on_frame}
use Rattle.surf_command_automata.proofs.colonies.compile.Goals as goal

pub returns-in-None-clause-in_step : goal.returns-in-None-clause-in_step
returns-in-None-clause-in_step g c =
    let a = c.args.automaton.now in
    let U : Universe = universe (box_of a.kind a.wrap a.width a.height) (g.L.Local.rule a.local) a.edge a.cells.items in
    let is : c.args.last ≡ None = c.in-None.is in
    subst (λ (last : Option ℕ). IfOk c.map_err.result (λ m. KeepsInStep U (in_phases U last) m.text.system)) (sym is)
    (mapped c.compile_automaton.result c.map_err.result (λ m. KeepsInStep U None m.text.system) _ c.map_err.ensures.cases c.map_err.ensures.variant c.compile_automaton.ensures.in_step)

pub returns-in-None-clause-framed : goal.returns-in-None-clause-framed
returns-in-None-clause-framed g c =
    let a = c.args.automaton.now in
    let U : Universe = universe (box_of a.kind a.wrap a.width a.height) (g.L.Local.rule a.local) a.edge a.cells.items in
    on_frame c.compile_automaton.result c.map_err.result (λ m. m.text.system) U None _ c.map_err.ensures.cases c.map_err.ensures.variant c.compile_automaton.ensures.colony

pub returns-in-None-clause-names : goal.returns-in-None-clause-names
returns-in-None-clause-names g c =
    let a = c.args.automaton.now in
    let U : Universe = universe (box_of a.kind a.wrap a.width a.height) (g.L.Local.rule a.local) a.edge a.cells.items in
    of_cells c.compile_automaton.result c.map_err.result (λ m. m.text.system) U None _ a.stands c.requires.starts tt c.map_err.ensures.cases c.map_err.ensures.variant c.compile_automaton.ensures.colony
