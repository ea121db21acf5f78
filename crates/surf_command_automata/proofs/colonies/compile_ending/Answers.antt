use Rattle.std.proofs.Common.{◌*◌, Some}
use Rattle.surf_auto.specs.Sync.{Universe, box_of, universe}
use Rattle.surf_colony.specs.InStep.{KeepsInStep}
use Rattle.surf_colony.proofs.Compiled.{is_last}
use Rattle.surf_command_automata.proofs.Automata.{mapped, of_cells, on_frame}
use Rattle.surf_command_automata.proofs.colonies.compile_ending.Goals as goal

pub returns-clause-in_step : goal.returns-clause-in_step
returns-clause-in_step g c =
    let a = c.args.automaton.now in
    let U : Universe = universe (box_of a.kind a.wrap a.width a.height) (g.L.Local.rule a.local) a.edge a.cells.items in
    mapped c.compile_last.result c.map_err.result (λ m. KeepsInStep U (Some (c.args.last * U.rule.phases)) m.text.system) _ c.map_err.ensures.cases c.map_err.ensures.variant c.compile_last.ensures.in_step

pub returns-clause-framed : goal.returns-clause-framed
returns-clause-framed g c =
    let a = c.args.automaton.now in
    let U : Universe = universe (box_of a.kind a.wrap a.width a.height) (g.L.Local.rule a.local) a.edge a.cells.items in
    on_frame c.compile_last.result c.map_err.result (λ m. m.text.system) U (Some (c.args.last * U.rule.phases)) _ c.map_err.ensures.cases c.map_err.ensures.variant c.compile_last.ensures.colony

pub returns-clause-names : goal.returns-clause-names
returns-clause-names g c =
    let a = c.args.automaton.now in
    let U : Universe = universe (box_of a.kind a.wrap a.width a.height) (g.L.Local.rule a.local) a.edge a.cells.items in
    of_cells c.compile_last.result c.map_err.result (λ m. m.text.system) U (Some (c.args.last * U.rule.phases)) _ a.stands c.requires.starts
    (is_last c.args.last U.rule.phases c.requires.limit a.stands.is_local.few_phases)
    c.map_err.ensures.cases c.map_err.ensures.variant c.compile_last.ensures.colony
