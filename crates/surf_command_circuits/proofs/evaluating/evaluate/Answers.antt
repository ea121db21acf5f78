use Rattle.std.proofs.Common.{◌≡◌, ◌∙◌, refl, ap, sym, subst, map, List, ℕ, Bool}
use Rattle.surf_rules.specs.Names.{text_of}
use Rattle.surf_logic.specs.Answers.{IsEval, HasEvalFault}
use Rattle.surf_blif.specs.Blifs.{IsRead}
use Rattle.surf_status.specs.declared.status.Status.{Status}
use Rattle.surf_status.specs.Calls.{EndsAs}
use Rattle.surf_command_circuits.specs.Bits.{bits_of}
use Rattle.surf_command_circuits.specs.Values.{values_text}
use Rattle.surf_status.specs.Writes.{Wrote, writes}
use Rattle.surf_status.proofs.Endings.{text_ends, loud}
use Rattle.surf_command_circuits.proofs.Valued.{tells, bits_ends}
use Rattle.surf_command_circuits.proofs.evaluating.evaluate.Goals as goal
use Rattle.surf_command_circuits.specs.Calls.{eval_call}

pub returns-in-Err-eval-clause-ends : goal.returns-in-Err-eval-clause-ends
returns-in-Err-eval-clause-ends g c =
    let input = c.args.input.items in
    let circuit = c.in-Ok.circuit in
    let bits = bits_of c.args.word.now in
    let read : IsRead input circuit = subst (λ (b : List ℕ). IsRead b circuit) c.deref.ensures.value c.in-Ok.ensures.ok in
    let are : c.deref-2.result.now ≡ bits = c.deref-2.ensures.value ∙ c.in-Ok-bits_of.ensures in
    let fault : HasEvalFault circuit bits c.in-Err-eval.error = subst (λ (b : List Bool). HasEvalFault circuit b c.in-Err-eval.error) are c.in-Err-eval.ensures in
    subst (λ (s : Status). EndsAs (eval_call bits input) (writes g.K.Sink.written g.K.Sink.faults c.args.out.now c.args.out.now) s) (sym c.refused_bits.ensures)
    (bits_ends bits input circuit c.in-Err-eval.error _ refl read fault)

pub returns-clause-ends : goal.returns-clause-ends
returns-clause-ends g c =
    let input = c.args.input.items in
    let circuit = c.in-Ok.circuit in
    let bits = bits_of c.args.word.now in
    let answer = c.in-Ok-eval.values.items in
    let read : IsRead input circuit = subst (λ (b : List ℕ). IsRead b circuit) c.deref.ensures.value c.in-Ok.ensures.ok in
    let are : c.deref-2.result.now ≡ bits = c.deref-2.ensures.value ∙ c.in-Ok-bits_of.ensures in
    let ev : IsEval circuit bits answer = subst (λ (b : List Bool). IsEval circuit b answer) are c.in-Ok-eval.ensures in
    let o = writes g.K.Sink.written g.K.Sink.faults c.args.out.now c.write_values.new.out in
    let lines = values_text (map (text_of circuit.names) circuit.parts.outputs) answer in
    let text : values_text (map (text_of c.names.result.now) c.outputs.result.now) c.deref-3.result.now ≡ lines =
    ap (λ ns. values_text (map (text_of ns) c.outputs.result.now) c.deref-3.result.now) c.names.ensures
    ∙ ap (λ os. values_text (map (text_of circuit.names) os) c.deref-3.result.now) c.outputs.ensures
    ∙ ap (values_text (map (text_of circuit.names) circuit.parts.outputs)) c.deref-3.ensures.value in
    text_ends (eval_call bits input) o lines c.write_values.result _ c.ended.ensures (tells input circuit bits answer read ev) tt
    (subst (λ (t : List ℕ). Wrote o t c.write_values.result) text c.write_values.ensures)

pub returns-clause-quiet : goal.returns-clause-quiet
returns-clause-quiet g c = λ quiet. absurd (loud c.write_values.result _ c.ended.ensures quiet)
