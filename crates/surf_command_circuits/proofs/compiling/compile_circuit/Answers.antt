use Rattle.std.proofs.Common.{ℕ, ◌≡◌, ◌∙◌, List, Some, sym, subst}
use Rattle.surf_blif.specs.Blifs.{IsRead, parts_of}
use Rattle.surf_manifest_print.specs.Prints.{print_of}
use Rattle.surf_circuit.specs.Compiled.{IsPrinted}
use Rattle.surf_command_circuits.specs.Compiled.{IsCompiled}
use Rattle.surf_status.specs.Writes.{writes}
use Rattle.surf_command_circuits.proofs.Surfaces.{spelled, words, compiled_text, compiled_holds}
use Rattle.surf_status.proofs.Emitting.{text_written}
use Rattle.surf_status.proofs.Endings.{text_ends}
use Rattle.surf_command_circuits.proofs.compiling.compile_circuit.Goals as goal
use Rattle.surf_command_circuits.specs.Calls.{circuit_call}

pub returns-clause-ends : goal.returns-clause-ends
returns-clause-ends g c =
    let input = c.args.input.items in
    let circuit = c.in-Ok.circuit in
    let printed : IsPrinted circuit c.in-Ok-compile_text.text.items = c.in-Ok-compile_text.ensures in
    let m = printed.manifest in
    let l = printed.legend in
    let text = c.deref-2.result.now in
    let o = writes g.K.Sink.written g.K.Sink.faults c.args.out.now c.write_all.new.sink in
    let read : IsRead input circuit = subst (λ (b : List ℕ). IsRead b circuit) c.deref.ensures.value c.in-Ok.ensures.ok in
    let is : print_of m (Some l) ≡ text = sym (c.deref-2.ensures.value ∙ printed.is) in
    let compiled : IsCompiled input text =
    subst (λ (t : List ℕ). IsCompiled input t) is
    (compiled_text input circuit read m l printed.surface printed.formed (printed.form (parts_of input) (spelled input circuit read) (words input circuit read)) (printed.holds (parts_of input) (spelled input circuit read))) in
    text_ends (circuit_call input) o text c.write_all.result _ c.ended.ensures compiled (compiled_holds input text compiled)
    (text_written o text c.write_all.result c.write_all.ensures.all c.write_all.ensures.front c.write_all.ensures.cause)
