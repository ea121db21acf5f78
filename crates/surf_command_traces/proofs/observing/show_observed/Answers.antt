use Rattle.std.proofs.Common.{List, ℕ, Ok, Option, ◌≡◌, ◌*◌, length, map, ap, sym, ◌∙◌, subst, arith, refl}
use Rattle.std.proofs.lemmas.List.FromFn.{length-map-range_with_len}
use Rattle.surf_lattice.specs.Grids.{Grid}
use Rattle.surf_world.specs.declared.event.Event.{Event}
use Rattle.surf_world.specs.Systems.{IsRun}
use Rattle.surf_text.specs.Bytes.{ended, lines_of, rows_of, spaced}
use Rattle.surf_trace.specs.Generations.{read_off}
use Rattle.surf_trace.specs.Observations.{Hinders, readings, shown_in}
use Rattle.surf_trace.specs.Splits.{before_trace}
use Rattle.surf_trace.specs.TraceTexts.{trace_of}
use Rattle.surf_status.specs.declared.status.Status.{Status}
use Rattle.surf_status.specs.Calls.{EndsAs}
use Rattle.surf_cells.specs.Rows.{state_word}
use Rattle.surf_cells.specs.Rows.{rows_text}
use Rattle.surf_command_traces.specs.Traced.{manifest_before}
use Rattle.surf_status.specs.Writes.{Wrote, writes}
use Rattle.surf_status.proofs.Endings.{text_ends}
use Rattle.surf_command_traces.proofs.Observed.{is_observed, not_observed_ends}
use Rattle.surf_command_traces.proofs.Replayed.{part_is, replay_is}
use Rattle.surf_command_traces.proofs.observing.show_observed.Goals as goal
use Rattle.surf_command_traces.specs.Calls.{observe_call}

pub write_observed-requires-clause-sides : goal.write_observed-requires-clause-sides
write_observed-requires-clause-sides g c =
    let w = c.in-Ok-into_world.world in
    let f : ℕ → Option ℕ = λ p. read_off (shown_in c.in-Ok-into_world.names) w.surface w.names c.deref-3.result.now p c.args.k in
    let long : length c.deref-in-Ok-observe.result.now ≡ length w.names =
    ap (λ (xs : List (Option ℕ)). length xs) (c.deref-in-Ok-observe.ensures.value ∙ c.in-Ok-observe.ensures.states) ∙ length-map-range_with_len f 0 (length w.names) in
    let wide : c.width-width.result ≡ w.surface.grid.width = c.width-width.ensures.side ∙ ap (λ (h : Grid). h.width) c.grid.ensures in
    let high : c.height-height.result ≡ w.surface.grid.height = c.height-height.ensures.side ∙ ap (λ (h : Grid). h.height) c.grid-2.ensures in
    long ∙ sym c.site_count-count.ensures.names ∙ c.site_count-count.ensures.sides ∙ sym (ap (λ x. x * c.height-height.result) wide ∙ ap (λ y. w.surface.grid.width * y) high)

pub write_observed-requires-clause-few : goal.write_observed-requires-clause-few
write_observed-requires-clause-few g c =
    let w = c.in-Ok-into_world.world in
    let f : ℕ → Option ℕ = λ p. read_off (shown_in c.in-Ok-into_world.names) w.surface w.names c.deref-3.result.now p c.args.k in
    let long : length c.deref-in-Ok-observe.result.now ≡ length w.names =
    ap (λ (xs : List (Option ℕ)). length xs) (c.deref-in-Ok-observe.ensures.value ∙ c.in-Ok-observe.ensures.states) ∙ length-map-range_with_len f 0 (length w.names) in
    omega (arith, long, c.site_count-count.ensures.names, c.site_count-count.ensures.bound)

pub returns-in-Ok-observe-clause-ends : goal.returns-in-Ok-observe-clause-ends
returns-in-Ok-observe-clause-ends g c =
    let input = c.args.input.items in
    let k = c.args.k in
    let m = c.in-Ok.manifest.text in
    let es = c.in-Ok-read_trace.events.items in
    let w = c.in-Ok-into_world.world in
    let texts = c.in-Ok-into_world.names in
    let read : manifest_before input ≡ Ok m =
    part_is input c.manifest_part.result.now (Ok m) (c.manifest_part.ensures.lines ∙ ap (λ b. before_trace (lines_of b)) c.deref.ensures.value) c.in-Ok.ensures.ok in
    let traced : trace_of input ≡ Ok es = ap trace_of (sym c.deref-2.ensures.value) ∙ c.in-Ok-read_trace.ensures.ok in
    let is = replay_is input m es read traced in
    let events : c.deref-3.result.now ≡ es = c.deref-3.ensures.value in
    let run : IsRun w.surface w.names es = subst (λ (fs : List Event). IsRun w.surface w.names fs) events c.in-Ok-observe.ensures.run in
    let wide : c.width-width.result ≡ w.surface.grid.width = c.width-width.ensures.side ∙ ap (λ (h : Grid). h.width) c.grid.ensures in
    let high : c.height-height.result ≡ w.surface.grid.height = c.height-height.ensures.side ∙ ap (λ (h : Grid). h.height) c.grid-2.ensures in
    let states : c.deref-in-Ok-observe.result.now ≡ readings (shown_in texts) w.surface w.names es k =
    c.deref-in-Ok-observe.ensures.value ∙ c.in-Ok-observe.ensures.states ∙ ap (λ (fs : List Event). readings (shown_in texts) w.surface w.names fs k) events in
    let o = writes g.K.Sink.written g.K.Sink.faults c.args.out.now c.write_observed.new.out in
    let rows = rows_text w.surface.grid (map state_word (readings (shown_in texts) w.surface w.names es k)) in
    let text : ended (map spaced (rows_of c.width-width.result c.height-height.result (map state_word c.deref-in-Ok-observe.result.now))) ≡ rows =
    ap (λ x. ended (map spaced (rows_of x c.height-height.result (map state_word c.deref-in-Ok-observe.result.now)))) wide
    ∙ ap (λ y. ended (map spaced (rows_of w.surface.grid.width y (map state_word c.deref-in-Ok-observe.result.now)))) high
    ∙ ap (λ (xs : List (Option ℕ)). rows_text w.surface.grid (map state_word xs)) states in
    text_ends (observe_call k input) o rows c.write_observed.result _ c.ended.ensures (is_observed k input m es w texts is c.in-Ok-into_world.ensures.numbered c.in-Ok-observe.ensures.cells run) tt
    (subst (λ (t : List ℕ). Wrote o t c.write_observed.result) text c.write_observed.ensures)

pub returns-clause-ends : goal.returns-clause-ends
returns-clause-ends g c =
    let input = c.args.input.items in
    let k = c.args.k in
    let m = c.in-Ok.manifest.text in
    let es = c.in-Ok-read_trace.events.items in
    let w = c.in-Ok-into_world.world in
    let texts = c.in-Ok-into_world.names in
    let read : manifest_before input ≡ Ok m =
    part_is input c.manifest_part.result.now (Ok m) (c.manifest_part.ensures.lines ∙ ap (λ b. before_trace (lines_of b)) c.deref.ensures.value) c.in-Ok.ensures.ok in
    let traced : trace_of input ≡ Ok es = ap trace_of (sym c.deref-2.ensures.value) ∙ c.in-Ok-read_trace.ensures.ok in
    let is = replay_is input m es read traced in
    let events : c.deref-3.result.now ≡ es = c.deref-3.ensures.value in
    let o = writes g.K.Sink.written g.K.Sink.faults c.args.out.now c.args.out.now in
    let error = c.in-Err-observe.error in
    let hinders : Hinders texts w.surface w.names es error = subst (λ (fs : List Event). Hinders texts w.surface w.names fs error) events c.in-Err-observe.ensures.refused in
    subst (λ (s : Status). EndsAs (observe_call k input) o s) (sym c.refused_observe.ensures)
    (not_observed_ends k input m es w texts is c.in-Ok-into_world.ensures.numbered o refl error hinders)
