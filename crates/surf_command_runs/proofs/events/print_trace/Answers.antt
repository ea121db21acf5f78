use Rattle.std.proofs.Common.{rules, codes, ◌++◌, refl, IsErr}
use Rattle.surf_pick.specs.Draws.{words_of}
use Rattle.surf_trace.specs.Traces.{events_text}
use Rattle.surf_command_runs.specs.Prints.{placed_events}
use Rattle.surf_base.proofs.EmitLemmas.{after_whole, cut_part}
use Rattle.surf_status.proofs.Emitting.{cut_before}
use Rattle.surf_command_runs.proofs.events.print_trace.Goals as goal

pub returns-in_err-put-clause-emits : goal.returns-in_err-put-clause-emits
returns-in_err-put-clause-emits g c =
    let lines = events_text 0 (placed_events c.args.sim.now.placed (words_of c.args.sim.now.generator) c.args.count) in
    let failed : IsErr c.put.result = search rules in
    cut_before _ _ _ _ _ _ (codes "!START_TRACE\n") (lines ++ codes "!END_TRACE\n") c.put.result _ failed c.from_residual.ensures.0 c.put.ensures

pub returns-in_err-print_events-clause-emits : goal.returns-in_err-print_events-clause-emits
returns-in_err-print_events-clause-emits g c =
    let lines = events_text 0 (placed_events c.args.sim.now.placed (words_of c.args.sim.now.generator) c.args.count) in
    let failed : IsErr c.print_events.result = search rules in
    cut_part _ _ _ _ _ _ _ _ _ (codes "!START_TRACE\n") lines (codes "!END_TRACE\n") _ c.print_events.result _ refl c.in_ok-put.ensures.whole c.put.ensures.later failed c.from_residual-in_err-print_events.ensures.0 c.print_events.ensures.emits

pub returns-clause-emits : goal.returns-clause-emits
returns-clause-emits g c =
    let lines = events_text 0 (placed_events c.args.sim.now.placed (words_of c.args.sim.now.generator) c.args.count) in
    after_whole _ _ _ _ _ _ _ _ _ (codes "!START_TRACE\n") (lines ++ codes "!END_TRACE\n") _ c.in_ok-put.ensures.whole c.put.ensures.later
    (after_whole _ _ _ _ _ _ _ _ _ lines (codes "!END_TRACE\n") _ c.in_ok-print_events.ensures.emits.whole c.print_events.ensures.emits.later c.put-2.ensures)
