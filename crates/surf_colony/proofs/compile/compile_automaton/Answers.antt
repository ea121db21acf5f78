use Rattle.std.proofs.Common.{◌<◌, None, map, arith, ap, ◌∙◌}
use Rattle.surf_auto.specs.Sync.{Universe, box_of, universe}
use Rattle.surf_sync.specs.Codes.{protocol}
use Rattle.surf_sync.specs.Listing.{marks_of, with_texts}
use Rattle.surf_sync.specs.Spelling.{spell}
use Rattle.surf_colony.proofs.Compiled.{are_parts, colony_in, in_step_in}
use Rattle.surf_colony.proofs.compile.compile_automaton.Goals as goal

pub assemble-requires : goal.assemble-requires
assemble-requires g c =
    let a = c.args.automaton.now in
    let U : Universe = universe (box_of a.kind a.wrap a.width a.height) (g.L.Local.rule a.local) a.edge a.cells.items in
    let some : 0 < 3 = omega arith in
    are_parts U None a.stands c.requires.starts tt some c.requires.few c.sync_rules.new.names c.in_ok-rules.rules.items
    (c.in_ok-rules.ensures.names ∙ ap (λ o. with_texts o (map spell (marks_of (protocol U.rule 0 None)))) c.new-names.ensures) c.in_ok-rules.ensures.rules

pub returns-clause-colony : goal.returns-clause-colony
returns-clause-colony g c =
    let a = c.args.automaton.now in
    let U : Universe = universe (box_of a.kind a.wrap a.width a.height) (g.L.Local.rule a.local) a.edge a.cells.items in
    colony_in c.assemble.result (λ m. m.text.system) U None c.sync_rules.new.names c.in_ok-rules.rules.items c.assemble.ensures.system c.in_ok-rules.ensures.rules

pub returns-clause-in_step : goal.returns-clause-in_step
returns-clause-in_step g c =
    let a = c.args.automaton.now in
    let U : Universe = universe (box_of a.kind a.wrap a.width a.height) (g.L.Local.rule a.local) a.edge a.cells.items in
    in_step_in c.assemble.result (λ m. m.text.system) U None a.stands c.requires.starts tt
    (colony_in c.assemble.result (λ m. m.text.system) U None c.sync_rules.new.names c.in_ok-rules.rules.items c.assemble.ensures.system c.in_ok-rules.ensures.rules)
