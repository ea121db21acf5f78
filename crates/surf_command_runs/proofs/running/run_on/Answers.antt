use Rattle.std.proofs.Common.{ap}
use Rattle.surf_rules.specs.Names.{text_of}
use Rattle.surf_pick.specs.Draws.{seeded, words_of}
use Rattle.surf_command_runs.specs.Prints.{placed_text}
use Rattle.surf_status.proofs.Endings.{text_ends, loud}
use Rattle.surf_command_runs.proofs.Shown.{output_is, shown}
use Rattle.surf_command_runs.proofs.running.run_on.Goals as goal
use Rattle.surf_command_runs.specs.Calls.{run_call}

pub returns-in-Ok-print_world-clause-ends : goal.returns-in-Ok-print_world-clause-ends
returns-in-Ok-print_world-clause-ends g c = λ input read.
    let m = c.args.manifest.text in
    let w = c.in-Ok.pair.0 in
    let texts = c.in-Ok.pair.1 in
    let numbered = c.in-Ok.ensures.numbered in
    text_ends (run_call c.args.seed c.args.count input) _ (placed_text (text_of texts) w (words_of (seeded c.args.seed)) c.args.count) c.in-Ok-print_world.written _ c.ended.ensures
    (output_is input m c.args.seed c.args.count w texts read numbered)
    (shown input m c.args.seed c.args.count w texts read numbered) c.in-Ok-print_world.ensures.printed

pub returns-in-Ok-print_world-clause-quiet : goal.returns-in-Ok-print_world-clause-quiet
returns-in-Ok-print_world-clause-quiet g c = λ quiet. absurd (loud c.in-Ok-print_world.written _ c.ended.ensures quiet)

pub returns-clause-ends : goal.returns-clause-ends
returns-clause-ends g c = λ input read. ap (λ out. g.K.Sink.faults out) c.in-Err-print_world.ensures.quiet

pub returns-clause-quiet : goal.returns-clause-quiet
returns-clause-quiet g c = λ quiet. c.in-Err-print_world.ensures.quiet
