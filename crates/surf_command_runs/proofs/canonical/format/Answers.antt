use Rattle.std.proofs.Common.{◌≡◌, Ok, ap, sym, ◌∙◌}
use Rattle.surf_manifest.specs.Grammar.{manifest_of}
use Rattle.surf_command_runs.specs.Calls.{printed_manifest}
use Rattle.surf_status.specs.Writes.{writes}
use Rattle.surf_status.proofs.Emitting.{text_written}
use Rattle.surf_status.proofs.Endings.{text_ends}
use Rattle.surf_command_runs.proofs.canonical.format.Goals as goal
use Rattle.surf_command_runs.specs.Calls.{format_call}

pub returns-clause-ends : goal.returns-clause-ends
returns-clause-ends g c =
    let input = c.args.input.items in
    let text = c.deref-2.result.now in
    let o = writes g.K.Sink.written g.K.Sink.faults c.args.out.now c.write_all.new.sink in
    let read = ap manifest_of (sym c.deref.ensures.value) ∙ c.in-Ok.ensures.ok in
    let is : printed_manifest (manifest_of input) ≡ Ok text = ap printed_manifest read ∙ ap Ok (sym (c.deref-2.ensures.value ∙ c.in-Ok-print_manifest.ensures.text)) in
    text_ends (format_call input) o text c.write_all.result _ c.ended.ensures is tt (text_written o text c.write_all.result c.write_all.ensures.all c.write_all.ensures.front c.write_all.ensures.cause)
