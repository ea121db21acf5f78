use Rattle.std.proofs.Common.{rules, IsErr, ◌<◌, length, All, sym, ◌∙◌, subst}
use Rattle.surf_base.specs.declared.outside.WriteFault.{WriteFault}
use Rattle.surf_base.specs.Emits.{Emits, outlet}
use Rattle.surf_base.proofs.EmitLemmas.{after_whole}
use Rattle.surf_rules.specs.Names.{text_of}
use Rattle.surf_pick.specs.Draws.{words_of}
use Rattle.surf_world.specs.Worlds.{Placed}
use Rattle.surf_trace.specs.Traces.{trace_text}
use Rattle.surf_command_runs.specs.Prints.{placed_events, left_world, end_text}
use Rattle.surf_status.proofs.Emitting.{cut_before}
use Rattle.surf_cells.proofs.Below.{left_below}
use Rattle.surf_command_runs.proofs.running.print_held.Goals as goal

pub print_end-requires : goal.print_end-requires
print_end-requires g c =
    let w = c.args.sim.now.placed in
    subst (λ (v : Placed). All (λ k. k < length c.args.names.now) v.names) (sym (c.world.ensures ∙ c.in_ok-print_trace.ensures.world))
    (left_below (length c.args.names.now) w.surface w.names (placed_events w (words_of c.args.sim.now.generator) c.args.count) c.requires).in_names

pub returns : goal.returns
returns g c =
    let w = c.args.sim.now.placed in
    let es = placed_events w (words_of c.args.sim.now.generator) c.args.count in
    after_whole _ _ _ _ _ _ _ _ _ (trace_text es) (end_text (text_of c.args.names.now) (left_world w es)) _ c.in_ok-print_trace.ensures.emits.whole c.print_trace.ensures.emits.later
    (subst (λ (v : Placed). Emits {T = Unit {0}} {E = WriteFault} (outlet (g.K.Sink.written c.print_trace.new.out) c.print_trace.new.outbox (g.K.Sink.faults c.print_trace.new.out)) (outlet (g.K.Sink.written c.print_end.new.out) c.print_end.new.outbox (g.K.Sink.faults c.print_end.new.out)) (end_text (text_of c.args.names.now) v) c.print_end.result)
    (c.world.ensures ∙ c.in_ok-print_trace.ensures.world) c.print_end.ensures)

pub returns-in_err-print_trace : goal.returns-in_err-print_trace
returns-in_err-print_trace g c =
    let w = c.args.sim.now.placed in
    let es = placed_events w (words_of c.args.sim.now.generator) c.args.count in
    let failed : IsErr c.print_trace.result = search rules in
    cut_before _ _ _ _ _ _ (trace_text es) (end_text (text_of c.args.names.now) (left_world w es)) c.print_trace.result _ failed c.from_residual.ensures.0 c.print_trace.ensures.emits
