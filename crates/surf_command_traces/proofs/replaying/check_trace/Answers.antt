use Rattle.std.proofs.Common.{List, ℕ, Ok, ◌≡◌, ap, sym, ◌∙◌, subst}
use Rattle.surf_world.specs.declared.event.Event.{Event}
use Rattle.surf_world.specs.Systems.{IsRun}
use Rattle.surf_text.specs.Bytes.{lines_of}
use Rattle.surf_trace.specs.Replays.{FirstBad}
use Rattle.surf_trace.specs.Splits.{before_trace}
use Rattle.surf_trace.specs.TraceTexts.{trace_of}
use Rattle.surf_command_traces.specs.Traced.{manifest_before, valid_text}
use Rattle.surf_status.specs.Writes.{Wrote, writes}
use Rattle.surf_status.proofs.Endings.{text_ends, loud}
use Rattle.surf_command_traces.proofs.Replayed.{part_is, replay_is, valid, bad_ends}
use Rattle.surf_command_traces.proofs.replaying.check_trace.Goals as goal
use Rattle.surf_command_traces.specs.Calls.{replay_call}

pub returns-in-NotEnabled-clause-ends : goal.returns-in-NotEnabled-clause-ends
returns-in-NotEnabled-clause-ends g c =
    let input = c.args.input.items in
    let m = c.in-Ok.manifest.text in
    let es = c.in-Ok-read_trace.events.items in
    let w = c.in-Ok-into_world.world in
    let read : manifest_before input ≡ Ok m =
    part_is input c.manifest_part.result.now (Ok m) (c.manifest_part.ensures.lines ∙ ap (λ b. before_trace (lines_of b)) c.deref.ensures.value) c.in-Ok.ensures.ok in
    let trace : trace_of input ≡ Ok es = ap trace_of (sym c.deref-2.ensures.value) ∙ c.in-Ok-read_trace.ensures.ok in
    let is = replay_is input m es read trace in
    let bad : FirstBad w.surface w.names es c.in-NotEnabled.k =
    subst (λ (fs : List Event). FirstBad w.surface w.names fs c.in-NotEnabled.k) c.deref-3.ensures.value ((c.replay.ensures.not_enabled c.in-NotEnabled.k).0 c.in-NotEnabled.is) in
    bad_ends input m es w c.in-Ok-into_world._names is c.in-Ok-into_world.ensures.numbered (writes g.K.Sink.written g.K.Sink.faults c.args.out.now c.args.out.now) c.in-NotEnabled.k bad

pub returns-clause-ends : goal.returns-clause-ends
returns-clause-ends g c =
    let input = c.args.input.items in
    let m = c.in-Ok.manifest.text in
    let es = c.in-Ok-read_trace.events.items in
    let w = c.in-Ok-into_world.world in
    let read : manifest_before input ≡ Ok m =
    part_is input c.manifest_part.result.now (Ok m) (c.manifest_part.ensures.lines ∙ ap (λ b. before_trace (lines_of b)) c.deref.ensures.value) c.in-Ok.ensures.ok in
    let trace : trace_of input ≡ Ok es = ap trace_of (sym c.deref-2.ensures.value) ∙ c.in-Ok-read_trace.ensures.ok in
    let is = replay_is input m es read trace in
    let run : IsRun w.surface w.names es = subst (λ (fs : List Event). IsRun w.surface w.names fs) c.deref-3.ensures.value (c.replay.ensures.valid.0 c.in-Valid.is) in
    let o = writes g.K.Sink.written g.K.Sink.faults c.args.out.now c.write_valid.new.out in
    text_ends (replay_call input) o (valid_text es) c.write_valid.result _ c.ended.ensures (valid input m es w c.in-Ok-into_world._names is c.in-Ok-into_world.ensures.numbered run) tt
    (subst (λ (t : List ℕ). Wrote o t c.write_valid.result) (ap valid_text c.deref-in-Valid.ensures.value) c.write_valid.ensures)

pub returns-clause-quiet : goal.returns-clause-quiet
returns-clause-quiet g c = λ quiet. absurd (loud c.write_valid.result _ c.ended.ensures quiet)
