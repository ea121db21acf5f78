use Rattle.std.proofs.Common.{◌*◌, ◌<◌, ◌≤◌, Some, map, arith, ap, sym, subst, ◌∙◌}
use Rattle.surf_auto.specs.Locals.{rule_count_in}
use Rattle.surf_auto.specs.Sync.{Universe, box_of, universe}
use Rattle.surf_sync.specs.Codes.{protocol}
use Rattle.surf_sync.specs.Listing.{marks_of, with_texts}
use Rattle.surf_sync.specs.Spelling.{spell}
use Rattle.surf_colony.proofs.Compiled.{are_parts, colony_in, in_step_in, is_last, last_turns}
use Rattle.surf_colony.proofs.compile.compile_last.Goals as goal

pub assemble-requires : goal.assemble-requires
assemble-requires g c =
    let a = c.args.automaton.now in
    let U : Universe = universe (box_of a.kind a.wrap a.width a.height) (g.L.Local.rule a.local) a.edge a.cells.items in
    let last = Some (c.args.last * U.rule.phases) in
    let turns = last_turns c.args.last U.rule.phases a.stands.is_local.some_phase in
    let some = c.requires.some in
    are_parts U last a.stands c.requires.starts (is_last c.args.last U.rule.phases c.requires.limit a.stands.is_local.few_phases)
    (subst (λ n. 0 < n) (sym turns) (omega (arith, some)))
    (subst (λ n. rule_count_in n U.rule ≤ 1048576) (sym turns) c.requires.few)
    c.sync_rules_last.new.names c.in_ok-rules.rules.items
    (c.in_ok-rules.ensures.names ∙ ap (λ o. with_texts o (map spell (marks_of (protocol U.rule 0 last)))) c.new-names.ensures) c.in_ok-rules.ensures.rules

pub returns-clause-colony : goal.returns-clause-colony
returns-clause-colony g c =
    let a = c.args.automaton.now in
    let U : Universe = universe (box_of a.kind a.wrap a.width a.height) (g.L.Local.rule a.local) a.edge a.cells.items in
    colony_in c.assemble.result (λ m. m.text.system) U (Some (c.args.last * U.rule.phases)) c.sync_rules_last.new.names c.in_ok-rules.rules.items c.assemble.ensures.system c.in_ok-rules.ensures.rules

pub returns-clause-in_step : goal.returns-clause-in_step
returns-clause-in_step g c =
    let a = c.args.automaton.now in
    let U : Universe = universe (box_of a.kind a.wrap a.width a.height) (g.L.Local.rule a.local) a.edge a.cells.items in
    let last = Some (c.args.last * U.rule.phases) in
    in_step_in c.assemble.result (λ m. m.text.system) U last a.stands c.requires.starts (is_last c.args.last U.rule.phases c.requires.limit a.stands.is_local.few_phases)
    (colony_in c.assemble.result (λ m. m.text.system) U last c.sync_rules_last.new.names c.in_ok-rules.rules.items c.assemble.ensures.system c.in_ok-rules.ensures.rules)
