use Rattle.surf_auto.specs.Sync.{box_of}
use Rattle.surf_rle.specs.Sources.{Eight}
use Rattle.surf_command_automata.proofs.Automata.{eight_steps, few_rules, same_universe, starts_within}
use Rattle.surf_command_automata.proofs.colonies.write_eight.Goals as goal

pub write_source-requires-clause-starts : goal.write_source-requires-clause-starts
write_source-requires-clause-starts g c =
    let a = c.args.automaton in
    starts_within a.local (box_of a.kind a.wrap a.width a.height) a.edge a.cells.items c.requires.dead a.stands

pub write_source-requires-clause-few : goal.write_source-requires-clause-few
write_source-requires-clause-few g c = few_rules c.args.automaton.local

pub returns-clause-ends : goal.returns-clause-ends
returns-clause-ends g c = λ margin input spelled.
    let a = c.args.automaton in
    let box = box_of a.kind a.wrap a.width a.height in
    c.write_source.ensures.ends margin input (Eight a.local box a.cells.items) spelled
    (same_universe a.local box a.edge a.cells.items c.requires.dead a.stands)
    (eight_steps a.local box a.edge a.cells.items c.requires.dead a.stands)
