use Rattle.std.specs.Prelude.{All}
use Rattle.std.proofs.Common.{List, ℕ, Ok, None, ◌≡◌, ◌<◌, length, map, ap, sym, ◌∙◌, subst}
use Rattle.surf_lattice.specs.Grids.{Grid}
use Rattle.surf_lattice.specs.AnyGrid.{grid_of}
use Rattle.surf_rules.specs.Names.{text_of}
use Rattle.surf_world.specs.declared.event.Event.{Event}
use Rattle.surf_world.specs.Systems.{IsRun}
use Rattle.surf_world.specs.Worlds.{Placed}
use Rattle.surf_text.specs.Bytes.{lines_of}
use Rattle.surf_manifest_print.specs.Legends.{LegendText}
use Rattle.surf_trace.specs.Replays.{FirstBad, left_world}
use Rattle.surf_trace.specs.Splits.{before_trace}
use Rattle.surf_trace.specs.TraceTexts.{trace_of}
use Rattle.surf_command_traces.specs.Finals.{finals_text, first_outside, legend_before}
use Rattle.surf_command_traces.specs.Traced.{manifest_before}
use Rattle.surf_status.specs.Writes.{Wrote, writes}
use Rattle.surf_status.proofs.Endings.{text_ends}
use Rattle.surf_command_traces.proofs.Finals.{legend_is, bad_record, text_left, is_ended}
use Rattle.surf_command_traces.proofs.Replayed.{part_is}
use Rattle.surf_cells.proofs.Below.{left_below}
use Rattle.surf_command_traces.proofs.outputs.show_finals.Goals as goal
use Rattle.surf_command_traces.specs.Calls.{outputs_call}

pub returns-in-NotEnabled-clause-ends : goal.returns-in-NotEnabled-clause-ends
returns-in-NotEnabled-clause-ends g c =
    let input = c.args.input.items in
    let m = c.in-Ok.manifest.text in
    let l = c.in-Ok-read_legend.legend in
    let es = c.in-Ok-read_trace.events.items in
    let w = c.in-Ok-into_world.world in
    let texts = c.in-Ok-into_world.names in
    let lines : lines_of c.manifest_part-part.result.now ≡ before_trace (lines_of input) = c.manifest_part-part.ensures.lines ∙ ap (λ b. before_trace (lines_of b)) c.deref.ensures.value in
    let read : manifest_before input ≡ Ok m = part_is input c.manifest_part-part.result.now (Ok m) lines c.in-Ok.ensures.ok in
    let told : legend_before input ≡ Ok l = legend_is input c.manifest_part-part.result.now (Ok l) lines c.in-Ok-read_legend.ensures.ok in
    let outputs : c.deref-2.result.now ≡ l.outputs = c.deref-2.ensures.value ∙ ap (λ (x : LegendText). x.outputs) c.legend.view_is in
    let inside : first_outside m.system.surface.grid l.outputs ≡ None =
    ap (λ (h : Grid). first_outside h l.outputs) (sym c.grid.ensures.grid) ∙ ap (first_outside (grid_of c.grid.result)) (sym outputs) ∙ c.in-None.ensures.none in
    let traced : trace_of input ≡ Ok es = ap trace_of (sym c.deref-3.ensures.value) ∙ c.in-Ok-read_trace.ensures.ok in
    let bad : FirstBad w.surface w.names es c.in-NotEnabled.k =
    subst (λ (fs : List Event). FirstBad w.surface w.names fs c.in-NotEnabled.k) c.deref-4.ensures.value ((c.replay.ensures.not_enabled c.in-NotEnabled.k).0 c.in-NotEnabled.is) in
    bad_record input m read l told inside es traced w texts c.in-Ok-into_world.ensures.numbered (writes g.K.Sink.written g.K.Sink.faults c.args.out.now c.args.out.now) c.in-NotEnabled.k bad

pub write_finals-requires-clause-names : goal.write_finals-requires-clause-names
write_finals-requires-clause-names g c =
    let w = c.in-Ok-into_world.world in
    let n = length c.in-Ok-into_world.names in
    subst (λ (u : Placed). All (λ k. k < n) u.names) (sym c.in-Valid.ensures.left) (left_below n w.surface w.names c.deref-4.result.now c.in-Ok-into_world.ensures.numbered.below).in_names

pub returns-clause-ends : goal.returns-clause-ends
returns-clause-ends g c =
    let input = c.args.input.items in
    let m = c.in-Ok.manifest.text in
    let l = c.in-Ok-read_legend.legend in
    let es = c.in-Ok-read_trace.events.items in
    let w = c.in-Ok-into_world.world in
    let texts = c.in-Ok-into_world.names in
    let lines : lines_of c.manifest_part-part.result.now ≡ before_trace (lines_of input) = c.manifest_part-part.ensures.lines ∙ ap (λ b. before_trace (lines_of b)) c.deref.ensures.value in
    let read : manifest_before input ≡ Ok m = part_is input c.manifest_part-part.result.now (Ok m) lines c.in-Ok.ensures.ok in
    let told : legend_before input ≡ Ok l = legend_is input c.manifest_part-part.result.now (Ok l) lines c.in-Ok-read_legend.ensures.ok in
    let outputs : c.deref-2.result.now ≡ l.outputs = c.deref-2.ensures.value ∙ ap (λ (x : LegendText). x.outputs) c.legend.view_is in
    let inside : first_outside m.system.surface.grid l.outputs ≡ None =
    ap (λ (h : Grid). first_outside h l.outputs) (sym c.grid.ensures.grid) ∙ ap (first_outside (grid_of c.grid.result)) (sym outputs) ∙ c.in-None.ensures.none in
    let traced : trace_of input ≡ Ok es = ap trace_of (sym c.deref-3.ensures.value) ∙ c.in-Ok-read_trace.ensures.ok in
    let events : c.deref-4.result.now ≡ es = c.deref-4.ensures.value in
    let run : IsRun w.surface w.names es = subst (λ (fs : List Event). IsRun w.surface w.names fs) events (c.replay.ensures.valid.0 c.in-Valid.is) in
    let left : c.replay.new.world ≡ left_world w es = c.in-Valid.ensures.left ∙ ap (λ (fs : List Event). left_world w fs) events in
    let places : c.deref-in-Valid.result.now ≡ l.outputs = c.deref-in-Valid.ensures.value ∙ ap (λ (x : LegendText). x.outputs) c.legend.view_is in
    let o = writes g.K.Sink.written g.K.Sink.faults c.args.out.now c.write_finals.new.out in
    let text : finals_text c.replay.new.world.surface.grid (map (text_of texts) c.replay.new.world.names) c.deref-in-Valid.result.now ≡ text_left input m read l told inside es traced w texts c.in-Ok-into_world.ensures.numbered =
    ap (λ (u : Placed). finals_text u.surface.grid (map (text_of texts) u.names) c.deref-in-Valid.result.now) left
    ∙ ap (finals_text w.surface.grid (map (text_of texts) (left_world w es).names)) places in
    text_ends (outputs_call input) o (text_left input m read l told inside es traced w texts c.in-Ok-into_world.ensures.numbered) c.write_finals.result _ c.ended.ensures
    (is_ended input m read l told inside es traced w texts c.in-Ok-into_world.ensures.numbered run) tt
    (subst (λ (t : List ℕ). Wrote o t c.write_finals.result) text c.write_finals.ensures)
